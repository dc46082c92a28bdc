-- What holds of a replay, whatever the song is.
use Rattle.std.specs.Prelude.{◌≡◌, ◌≤◌, ◌++◌, ℕ, List, replicate, sum_by}
use Rattle.ft_types.specs.declared.module.Module.{Module}
use Rattle.ft_replay.specs.State.{SequentialState, first_state}
use Rattle.ft_replay.specs.Replay.{ticks_from, state_after, replay, sound_of_song}
use Rattle.ft_replay.specs.Tick.{Tick}

-- more versions play on from the state that those before leave
abbrev pub TicksGoOn : Type 0
TicksGoOn = (song_at : ℕ → Module) (versions more : List ℕ) (rate : ℕ) (state : SequentialState)
    → ticks_from song_at (versions ++ more) rate state
    ≡ ticks_from song_at versions rate state
    ++ ticks_from song_at more rate (state_after song_at versions rate state)

abbrev pub StateGoesOn : Type 0
StateGoesOn = (song_at : ℕ → Module) (versions more : List ℕ) (rate : ℕ) (state : SequentialState)
    → state_after song_at (versions ++ more) rate state
    ≡ state_after song_at more rate (state_after song_at versions rate state)

-- the frames of ticks, together
abbrev pub frames_of_ticks : List Tick → ℕ
frames_of_ticks ticks = sum_by (λ tick. tick.place.frames) ticks

-- the ticks of a song that nobody edits
abbrev pub unedited_ticks : Module → ℕ → ℕ → List Tick
unedited_ticks song many rate =
    ticks_from (λ version. song) (replicate many 0) rate (first_state song.channels)

-- the replay of a song that nobody edits has the song's sound, with as many ticks as hold the frames
abbrev pub OneVersionSounds : Type 0
OneVersionSounds = (song : Module) (count rate many : ℕ) → many ≤ count
    → count ≤ frames_of_ticks (unedited_ticks song many rate)
    → (replay song.channels (λ version. song) (replicate many 0) count rate).sound
    ≡ sound_of_song song count rate
