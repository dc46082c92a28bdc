-- The segments of the song before an edit that aren't of the song after it, in the order of the walk.
use Rattle.std.specs.Prelude.{ℕ, ◌-◌, ◌/◌, List, [], ◌∷◌, ◌++◌, length, slice_get, slice_index}
use Rattle.ft_types.specs.Blocks.{pieces_of}
use Rattle.ft_edits.specs.Lists.{stretch_of}
use Rattle.ft_segments.specs.Walk.{PatternIds, SampleIds, InstrumentIds, SongIds}
use Rattle.ft_changes.specs.declared.reach.Reach.{Reach}
use Rattle.ft_changes.specs.declared.reach.Reach.TheVariants.{Song, LastPattern, Cell, Pattern, Instrument, Bare, LastSample, Sample, Frames}
use Rattle.ft_changes.specs.Parts.{pattern_segments, index_roots, body_ids, sample_segments, instrument_segments, segments_if}

abbrev pub pattern_root_of : PatternIds → List ℕ
pattern_root_of pattern = pattern.root ∷ []

abbrev pub sample_root_of : SampleIds → List ℕ
sample_root_of sample = sample.root ∷ []

abbrev pub instrument_root_of : InstrumentIds → List ℕ
instrument_root_of instrument = instrument.root ∷ []

-- a root, and one body
abbrev pub root_and_body : ℕ → PatternIds → List ℕ
root_and_body body pattern = pattern.root ∷ slice_index pattern.bodies body ∷ []

-- a sample's root, and the indexes and bodies of a stretch
abbrev pub root_and_stretch : ℕ → ℕ → SampleIds → List ℕ
root_and_stretch first gone sample =
    sample.root
    ∷ stretch_of (first / 1024) (pieces_of gone 1024) (index_roots sample)
    ++ stretch_of first gone (body_ids sample)

-- an instrument's root, and segments of one of its samples
abbrev pub root_and_sample : (SampleIds → List ℕ) → ℕ → InstrumentIds → List ℕ
root_and_sample segments s instrument =
    instrument.root ∷ segments_if segments (slice_get instrument.samples s)

-- its last sample
abbrev pub root_and_last : InstrumentIds → List ℕ
root_and_last instrument =
    root_and_sample sample_segments (length instrument.samples - 1) instrument

abbrev pub dropped_of_pattern : (PatternIds → List ℕ) → ℕ → SongIds → List ℕ
dropped_of_pattern segments p ids = ids.root ∷ segments_if segments (slice_get ids.patterns p)

abbrev pub dropped_of_instrument : (InstrumentIds → List ℕ) → ℕ → SongIds → List ℕ
dropped_of_instrument segments at ids =
    ids.root ∷ segments_if segments (slice_get ids.instruments at)

abbrev pub dropped : Reach → SongIds → List ℕ
dropped Song ids = ids.root ∷ []
dropped LastPattern ids = dropped_of_pattern pattern_segments (length ids.patterns - 1) ids
dropped (Cell p b) ids = dropped_of_pattern (root_and_body b) p ids
dropped (Pattern p bodies) ids = dropped_of_pattern pattern_segments p ids
dropped (Instrument at) ids = dropped_of_instrument instrument_root_of at ids
dropped (Bare at) ids = dropped_of_instrument instrument_segments at ids
dropped (LastSample at) ids = dropped_of_instrument root_and_last at ids
dropped (Sample at s) ids = dropped_of_instrument (root_and_sample sample_root_of s) at ids
dropped (Frames at s first last gone) ids =
    dropped_of_instrument (root_and_sample (root_and_stretch first gone) s) at ids
