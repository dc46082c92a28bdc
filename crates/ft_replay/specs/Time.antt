-- How long a tick is.
use Rattle.std.specs.Prelude.{ℕ, ◌+◌, ◌*◌, ◌/◌, ◌%◌, ◌==◌, if◌then◌else◌}
use Rattle.ft_replay.specs.declared.state.Control.{Control}

-- what a tick divides by twice its BPM: the rest of the tick before counts where the BPM stays
abbrev pub tick_room : ℕ → Control → ℕ
tick_room rate control = 5 * rate + (if control.bpm == control.last_bpm then control.carry else 0)

unfoldable pub tick_frames : ℕ → Control → ℕ
tick_frames rate control = tick_room rate control / (2 * control.bpm)

-- the control with the rest for the next tick
abbrev pub with_carry : ℕ → Control → Control
with_carry rate control =
    record control { carry = tick_room rate control % (2 * control.bpm); last_bpm = control.bpm }
