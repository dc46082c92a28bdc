-- The sample that an edit reaches and whose frames stay, and its root after the edit.
use Rattle.std.specs.Prelude.{ℕ, List}
use Rattle.ft_types.specs.declared.module.Module.{Module}
use Rattle.ft_types.specs.declared.instrument.Instrument.{Instrument}
use Rattle.ft_types.specs.declared.sample.Sample.{Sample}
use Rattle.ft_segments.specs.Walk.{SampleIds, InstrumentIds, SongIds}
use Rattle.ft_changes.specs.declared.reach.Reach.{Reach}
use Rattle.ft_changes.specs.declared.reach.Reach.TheVariants as reaches
use Rattle.ft_changes.specs.Parts.{index_roots}
use Rattle.ft_sharing.specs.Written.{AtPlace, SampleRootIsWritten}
use Rattle.ft_roots.specs.RootWords.{HasSampleWords}

-- what holds of a sample, both from 0, and its ids
abbrev pub AtSample : ℕ → ℕ → (Sample → SampleIds → Type 0) → Module → SongIds → Type 0
AtSample at s Related song ids =
    AtPlace at
    (λ (x : Instrument) (y : InstrumentIds). AtPlace s Related x.samples y.samples)
    song.instruments ids.instruments

-- its root in the pool is that of the song; of a sample with other frames nothing is said
abbrev pub KeptSampleRootOf : Reach → List ℕ → Module → SongIds → Type 0
KeptSampleRootOf (reaches.Sample at s) pool song ids =
    AtSample at s (SampleRootIsWritten pool) song ids
KeptSampleRootOf _ pool song ids = Unit {0}

-- words of its root name the roots of its indexes
abbrev pub HasSampleOf : List ℕ → Sample → SampleIds → Type 0
HasSampleOf words sample ids = HasSampleWords words sample (index_roots ids)
