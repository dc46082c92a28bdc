-- What holds of the sound of a tick.
use Rattle.std.specs.Prelude.{◌≡◌, ◌≤◌, ℕ, length}
use Rattle.ft_types.specs.Views.{Shown}
use Rattle.ft_replay.specs.declared.state.SongState.{SongState}
use Rattle.ft_replay.specs.Range.{IsSongInRange}
use Rattle.ft_replay.specs.Sound.{sound_of, sound_of_voices}
use Rattle.ft_replay.specs.Standing.{sequential_of}

-- The sum over the voices of a song between ticks, each with what is kept for its channel, is the
-- sum over the lanes of the sequential state that it stands for
abbrev pub SoundsAgree : Type 0
SoundsAgree = (song : SongState) (shown : Shown) (frames : ℕ) → IsSongInRange song
    → song.used ≤ length shown.kept
    → sound_of_voices shown.kept song.voices.items frames
    ≡ sound_of (sequential_of song shown).lanes frames
