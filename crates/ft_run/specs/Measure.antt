-- What is said of a song that was played: how many ticks it took, and how loud it was.
use Rattle.std.specs.Prelude.{ℕ, zero, suc, ◌-◌, ◌==◌, max, if◌then◌else◌, ℤ, nat_abs, List, fold}
use Rattle.ft_types.specs.declared.module.Module.{Module}
use Rattle.ft_replay.specs.State.{SequentialState, first_state}
use Rattle.ft_replay.specs.Tick.{seq_tick}
use Rattle.ft_replay.specs.Replay.{sound_of_song}

-- the larger of a size and that of a number
abbrev pub louder : ℕ → ℤ → ℕ
louder peak number = max peak (nat_abs number)

-- the largest size of a number, 0 of none
abbrev pub peak_of : List ℤ → ℕ
peak_of numbers = fold louder 0 numbers

-- how many ticks of a song it takes, from a state on, to have that many frames, of at most n
abbrev pub ticks_within : ℕ → ℕ → Module → ℕ → ℕ → SequentialState → ℕ
ticks_within zero version song rate frames state = 0
ticks_within (suc most) version song rate frames state =
    let tick = seq_tick version song rate state in
    if frames == 0 then 0
    else suc (ticks_within most version song rate (frames - tick.place.frames) tick.state)

-- and from its beginning; there are no more than frames, since each tick has one
unfoldable pub ticks_of_song : Module → ℕ → ℕ → ℕ
ticks_of_song song frames rate =
    ticks_within frames 0 song rate frames (first_state song.channels)

-- how loud that many frames of a song are
unfoldable pub peak_of_song : Module → ℕ → ℕ → ℕ
peak_of_song song frames rate = peak_of (sound_of_song song frames rate)
