-- What moves a period, a volume or a panning.
use Rattle.std.specs.Prelude.{ℕ, ◌+◌, ◌-◌, ◌*◌, ◌==◌, ◌||◌, true, min, max, nat_lt, if◌then◌else◌}
use Rattle.ft_types.specs.Limits.{highest_period}
use Rattle.ft_replay.specs.declared.state.Channel.{Channel}
use Rattle.ft_replay.specs.Effects.{high, low}
use Rattle.ft_replay.specs.Memory as memory

-- ---- periods: they stay in 1 to 31,999, and a period of 0 is none

-- a lower period sounds higher
abbrev pub lowered : ℕ → ℕ → ℕ
lowered amount period = if period == 0 then 0 else max 1 (period - amount)

abbrev pub raised : ℕ → ℕ → ℕ
raised amount period = if period == 0 then 0 else min highest_period (period + amount)

abbrev pub with_lower_period : ℕ → Channel → Channel
with_lower_period amount channel = record channel { period = lowered amount channel.period }

abbrev pub with_higher_period : ℕ → Channel → Channel
with_higher_period amount channel = record channel { period = raised amount channel.period }

-- towards another period, and not past it
abbrev pub towards : ℕ → ℕ → ℕ → ℕ
towards target amount period =
    if nat_lt period target then min target (period + amount) else max target (period - amount)

-- the period goes to the target; where either is none it stays
abbrev pub tone_portamento : Channel → Channel
tone_portamento channel = record channel {
  period =
      if channel.period == 0 || channel.target == 0 then channel.period
      else towards channel.target (4 * channel.tone_speed) channel.period;
  gliding = true;
}

abbrev pub with_tone_speed : ℕ → Channel → Channel
with_tone_speed speed channel =
    if speed == 0 then channel else record channel { tone_speed = speed }

-- ---- volumes and pannings

-- up by the first digit where it isn't 0, else down by the second
abbrev pub slid : ℕ → ℕ → ℕ → ℕ
slid most change level =
    if high change == 0 then level - low change else min most (level + high change)

abbrev pub with_volume_up : ℕ → Channel → Channel
with_volume_up change channel = record channel { vol = min 64 (channel.vol + change) }

abbrev pub with_volume_down : ℕ → Channel → Channel
with_volume_down change channel = record channel { vol = channel.vol - change }

abbrev pub with_panning_right : ℕ → Channel → Channel
with_panning_right change channel = record channel { pan = min 255 (channel.pan + change) }

abbrev pub with_panning_left : ℕ → Channel → Channel
with_panning_left change channel = record channel { pan = channel.pan - change }

abbrev pub volume_slide : Channel → Channel
volume_slide channel =
    record channel {
      vol = slid 64 (memory.remembered memory.volume_slide_index channel) channel.vol;
    }

abbrev pub panning_slide : Channel → Channel
panning_slide channel =
    record channel {
      pan = slid 255 (memory.remembered memory.panning_slide_index channel) channel.pan;
    }
