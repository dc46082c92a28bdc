-- Which segments readers ask for, and what they find there.
use Rattle.std.specs.Prelude.{◌≡◌, ℕ, zero, suc, ◌/◌, ◌%◌, ◌≤◌, List, slice_get, Option, None, Some}
use Rattle.ft_types.specs.declared.module.Module.{Module}
use Rattle.ft_types.specs.declared.pattern.Pattern.{Pattern}
use Rattle.ft_types.specs.declared.instrument.Instrument.{Instrument}
use Rattle.ft_types.specs.declared.sample.Sample.{Sample}
use Rattle.ft_types.specs.Views.{instrument_at, number_in, sample_in}
use Rattle.ft_segments.specs.Packing.{id_at}
use Rattle.ft_segments.specs.Walk.{InstrumentIds, SampleIds, SongIds, Placed, IsOf, ids_of, pattern_walk, instrument_walk, sample_uses, sample_walk}
use Rattle.ft_image.specs.Shown.{ShowsPattern, ShowsInstrument}

-- ---- what a view may show

-- it may show all segments of a version
abbrev pub MayShowAll : {V : Type 0} → (V → Placed → ℕ → Type 0) → V → Placed → Type 0
MayShowAll may_show view placed =
    (segment : ℕ) → IsOf placed segment → may_show view placed segment

-- it may show those segments of a version that a sample's root names
abbrev pub MayShowSample : {V : Type 0} → (V → Placed → ℕ → Type 0) → V → Placed → ℕ → Type 0
MayShowSample may_show view placed root =
    (segment : ℕ) → IsOf placed segment → 1 ≤ sample_uses segment (sample_walk placed.pool root)
    → may_show view placed segment

-- ---- patterns

-- a version has a stored pattern of a number, with this root
pub record HasPattern (placed : Placed) (song : Module) (number root : ℕ) : Type 0 where
  pub pattern : Pattern
  pub stored : slice_get song.patterns number ≡ Some pattern
  pub named : slice_get (ids_of placed).patterns number
      ≡ Some (pattern_walk placed.pool song.channels root)
  pub shown : ShowsPattern placed.pool song.channels pattern
      (pattern_walk placed.pool song.channels root)

-- ---- instruments and samples

-- the segments of the instrument of a number; they count from 1
abbrev pub instrument_ids_at : SongIds → ℕ → Option InstrumentIds
instrument_ids_at ids zero = None
instrument_ids_at ids (suc number) = slice_get ids.instruments number

-- a version has an instrument of a number, with this root
pub record HasInstrument (placed : Placed) (song : Module) (number root : ℕ) : Type 0 where
  pub instrument : Instrument
  pub stored : instrument_at song number ≡ Some instrument
  pub named : instrument_ids_at (ids_of placed) number ≡ Some (instrument_walk placed.pool root)
  pub shown : ShowsInstrument placed.pool instrument (instrument_walk placed.pool root)

abbrev pub sample_ids_in : Option InstrumentIds → ℕ → Option SampleIds
sample_ids_in None number = None
sample_ids_in (Some ids) number = slice_get ids.samples number

abbrev pub root_or_none : Option SampleIds → Option ℕ
root_or_none None = None
root_or_none (Some ids) = Some ids.root

-- the root of a sample, by its instrument from 1 and its number from 0
abbrev pub sample_root_at : Placed → ℕ → ℕ → Option ℕ
sample_root_at placed instrument number =
    root_or_none (sample_ids_in (instrument_ids_at (ids_of placed) instrument) number)

-- the number of the sample that the note map of an instrument gives a note, from 0
abbrev pub mapped_sample : Module → ℕ → ℕ → ℕ
mapped_sample song instrument note = number_in (instrument_at song instrument) note

abbrev pub sample_at : Module → ℕ → ℕ → Option Sample
sample_at song instrument number = sample_in (instrument_at song instrument) number

-- the root is that of a sample of the shown song, which is this one
pub record IsRootOf (placed : Placed) (song : Module) (root : ℕ) (sample : Sample) : Type 0 where
  pub instrument : ℕ
  pub number : ℕ
  pub at : sample_root_at placed instrument number ≡ Some root
  pub is : sample_at song instrument number ≡ Some sample

-- the body of a number, 1,024 frames each, that an index of a sample's root names
abbrev pub body_at : List ℕ → ℕ → ℕ → ℕ
body_at pool root number = id_at pool (id_at pool root 16 (number / 1024)) 0 (number % 1024)
