-- What begins a voice anew within a row, or silences it.
use Rattle.std.specs.Prelude.{ℕ, ◌+◌, ◌-◌, ◌*◌, ◌/◌, ◌%◌, ◌^◌, ◌==◌, ◌&&◌, not, Option, Some, None, min, nat_le, nat_lt, if◌then◌else◌}
use Rattle.ft_types.specs.declared.voice.Voice.{Voice}
use Rattle.ft_replay.specs.declared.state.Channel.{Channel}
use Rattle.ft_replay.specs.Effects.{high, low}
use Rattle.ft_replay.specs.Memory as memory

-- ---- retriggers

abbrev pub from_start : Option Voice → Option Voice
from_start None = None
from_start (Some voice) = Some (record voice { pos = 0 })

-- the voice is at its first frame again, of the sample that it has
abbrev pub restarted : Channel → Channel
restarted channel = record channel { voice = from_start channel.voice }

abbrev pub retrigger : ℕ → ℕ → Channel → Channel
retrigger u interval channel =
    if not (interval == 0) && u % interval == 0 then restarted channel else channel

-- what R makes of a volume, by its first digit
unfoldable pub retriggered_volume : ℕ → ℕ → ℕ
retriggered_volume change volume =
    if change % 8 == 0 then volume
    else (if nat_le change 5 then volume - 2 ^ (change - 1)
    else (if change == 6 then 2 * volume / 3
    else (if change == 7 then volume / 2
    else (if nat_le change 13 then min 64 (volume + 2 ^ (change - 9))
    else (if change == 14 then min 64 (3 * volume / 2)
    else min 64 (2 * volume))))))

-- one more tick is counted
abbrev pub counted : Channel → ℕ
counted channel = min 255 (channel.retrigger + 1)

-- each time that many ticks are counted the voice begins anew, with another volume
abbrev pub multi_retrigger : Channel → Channel
multi_retrigger channel =
    let change = memory.remembered memory.retrigger_change_index channel in
    let interval = memory.remembered memory.retrigger_interval_index channel in
    if not (interval == 0) && nat_le interval (counted channel)
    then record (restarted channel) { retrigger = 0; vol = retriggered_volume change channel.vol }
    else record channel { retrigger = counted channel }

-- ---- mutes

-- after the ticks that are heard those that are not
abbrev pub muted_by : ℕ → Channel → Channel
muted_by times channel = record channel { muted = nat_lt (high times) channel.tremor }

abbrev pub tremor_start : Channel → Channel
tremor_start channel = muted_by (memory.remembered memory.tremor_index channel) channel

abbrev pub tremor_later : Channel → Channel
tremor_later channel =
    let times = memory.remembered memory.tremor_index channel in
    muted_by times (record channel { tremor = (channel.tremor + 1) % (high times + low times + 2) })

abbrev pub note_cut : ℕ → ℕ → Channel → Channel
note_cut u tick channel = if tick == u then record channel { vol = 0 } else channel
