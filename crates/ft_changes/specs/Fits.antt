-- Where the segments of a song have the parts that an edit reaches, and as many fresh ones are given
-- as it fills.
use Rattle.std.specs.Prelude.{◌≡◌, ◌⊎◌, ℕ, ◌≤◌, ◌<◌, List, Some, length, slice_get}
use Rattle.ft_types.specs.Blocks.{pieces_of}
use Rattle.ft_segments.specs.Walk.{PatternIds, SampleIds, InstrumentIds, SongIds}
use Rattle.ft_changes.specs.declared.reach.Reach.{Reach}
use Rattle.ft_changes.specs.declared.reach.Reach.TheVariants.{Song, LastPattern, Cell, Pattern, Instrument, Bare, LastSample, Sample, Frames}
use Rattle.ft_changes.specs.Parts.{body_ids}
use Rattle.ft_changes.specs.Reaches.{needed}

-- the bodies are there, and as many indexes as name them; either as many bodies are written as
-- were there, or all up to the end
pub record IsStretch (first last gone : ℕ) (sample : SampleIds) : Type 0 where
  pub upward : first ≤ last
  pub gone_upward : first ≤ gone
  pub within : gone ≤ length (body_ids sample)
  pub indexes : length sample.indexes ≡ pieces_of (length (body_ids sample)) 1024
  pub all : (last ≡ gone) ⊎ (gone ≡ length (body_ids sample))

pub record HasBody (p body : ℕ) (ids : SongIds) : Type 0 where
  pub pattern : PatternIds
  pub there : slice_get ids.patterns p ≡ Some pattern
  pub below : body < length pattern.bodies

pub record HoldsInstrument (at : ℕ) (Holds : InstrumentIds → Type 0) (ids : SongIds) : Type 0 where
  pub instrument : InstrumentIds
  pub there : slice_get ids.instruments at ≡ Some instrument
  pub holds : Holds instrument

pub record HasStretch (s first last gone : ℕ) (instrument : InstrumentIds) : Type 0 where
  pub sample : SampleIds
  pub there : slice_get instrument.samples s ≡ Some sample
  pub stretch : IsStretch first last gone sample

abbrev pub IsThere : Reach → SongIds → Type 0
IsThere Song ids = Unit {0}
IsThere LastPattern ids = Unit {0}
IsThere (Cell p body) ids = HasBody p body ids
IsThere (Pattern p bodies) ids = p ≤ length ids.patterns
IsThere (Instrument at) ids = HoldsInstrument at (λ instrument. Unit {0}) ids
IsThere (Bare at) ids = at ≤ length ids.instruments
IsThere (LastSample at) ids = HoldsInstrument at (λ instrument. Unit {0}) ids
IsThere (Sample at s) ids =
    HoldsInstrument at (λ (instrument : InstrumentIds). s ≤ length instrument.samples) ids
IsThere (Frames at s first last gone) ids = HoldsInstrument at (HasStretch s first last gone) ids

pub record TakesFresh (reach : Reach) (fresh : List ℕ) (ids : SongIds) : Type 0 where
  pub there : IsThere reach ids
  pub count : length fresh ≡ needed reach
