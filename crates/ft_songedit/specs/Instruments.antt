-- The instrument that an edit reaches, and its root after the edit.
use Rattle.std.specs.Prelude.{◌≡◌, ◌<◌, ℕ, List, All, Option, None, Some, length}
use Rattle.ft_types.specs.declared.module.Module.{Module}
use Rattle.ft_types.specs.declared.instrument.Instrument.{Instrument}
use Rattle.ft_segments.specs.Walk.{InstrumentIds, SongIds}
use Rattle.ft_changes.specs.declared.reach.Reach.{Reach}
use Rattle.ft_changes.specs.declared.reach.Reach.TheVariants as reaches
use Rattle.ft_sharing.specs.Written.{AtPlace, InstrumentRootIsWritten, sample_roots}
use Rattle.ft_roots.specs.RootWords.{HasInstrumentWords}

-- which instrument is touched, from 0, where one is
abbrev pub instrument_place : Reach → Option ℕ
instrument_place (reaches.Instrument at) = Some at
instrument_place (reaches.Bare at) = Some at
instrument_place (reaches.LastSample at) = Some at
instrument_place (reaches.Sample at s) = Some at
instrument_place (reaches.Frames at s first last gone) = Some at
instrument_place _ = None

-- its root in the pool is that of the song
abbrev pub InstrumentRootOf : Reach → List ℕ → Module → SongIds → Type 0
InstrumentRootOf reach pool song ids =
    (at : ℕ) → instrument_place reach ≡ Some at
    → AtPlace at (InstrumentRootIsWritten pool) song.instruments ids.instruments

-- words of its root name the roots of its samples
abbrev pub HasWordsOf : List ℕ → Instrument → InstrumentIds → Type 0
HasWordsOf words instrument ids = HasInstrumentWords words instrument (sample_roots ids)

-- so do these, and there is a root of 16 bits for each sample
pub record HasStored (words : List ℕ) (instrument : Instrument) (ids : InstrumentIds) : Type 0 where
  pub roots_count : length (sample_roots ids) ≡ length instrument.samples
  pub small : All (λ x. x < 65536) (sample_roots ids)
  pub words_of : HasWordsOf words instrument ids
