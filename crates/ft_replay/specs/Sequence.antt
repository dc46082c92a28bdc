-- What effects say of the song as a whole: the next row, its time, and the global volume.
use Rattle.std.specs.Prelude.{ℕ, ◌-◌, ◌==◌, Some, min, if◌then◌else◌}
use Rattle.ft_replay.specs.declared.state.Channel.{Channel}
use Rattle.ft_replay.specs.declared.state.Control.{Control}
use Rattle.ft_replay.specs.State.{Turn}
use Rattle.ft_replay.specs.Slides.{slid}

abbrev pub with_jump : ℕ → Control → Control
with_jump order control = record control { jump = Some order }

abbrev pub with_break : ℕ → Control → Control
with_break row control = record control { to_row = Some row }

abbrev pub with_delay : ℕ → Control → Control
with_delay rows control = record control { delay = rows }

abbrev pub with_tempo : ℕ → Control → Control
with_tempo ticks control = record control { tempo = ticks }

abbrev pub with_bpm : ℕ → Control → Control
with_bpm bpm control = record control { bpm = bpm }

abbrev pub with_global_volume : ℕ → Control → Control
with_global_volume volume control = record control { global = min volume 64 }

abbrev pub global_slide : ℕ → Control → Control
global_slide change control = record control { global = slid 64 change control.global }

-- ---- loops of rows

-- how often a loop is still to be played: a new one as often as it says, another once less
abbrev pub loops_left : ℕ → Channel → ℕ
loops_left times channel = if channel.loop_count == 0 then times else channel.loop_count - 1

-- the row is the first of a loop
abbrev pub with_loop_row : ℕ → Channel → Channel
with_loop_row row channel = record channel { loop_row = row }

abbrev pub with_loop_count : ℕ → Channel → Channel
with_loop_count count channel = record channel { loop_count = count }

-- where the loop is still to be played, the way back is this channel's
abbrev pub with_back : ℕ → ℕ → Control → Control
with_back c left control = if left == 0 then control else record control { back = Some c }

-- the first row of a loop, or its end
abbrev pub pattern_loop : ℕ → ℕ → Turn → Turn
pattern_loop c times turn =
    let channel = turn.lane.channel in
    if times == 0
    then record turn
    { lane = record turn.lane { channel = with_loop_row turn.control.row channel } }
    else record {
      lane = record turn.lane { channel = with_loop_count (loops_left times channel) channel };
      control = with_back c (loops_left times channel) turn.control;
    }
