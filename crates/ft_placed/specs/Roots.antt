-- The roots among the ids of a song, by their places; all count from 0.
use Rattle.std.specs.Prelude.{◌≡◌, ℕ, Option, Some, map, slice_get}
use Rattle.ft_segments.specs.Walk.{PatternIds, SampleIds, InstrumentIds, SongIds}
use Rattle.ft_changes.specs.Ids.{samples_of}

abbrev pub pattern_root_in : SongIds → ℕ → Option ℕ
pattern_root_in ids p = slice_get (map (λ (pattern : PatternIds). pattern.root) ids.patterns) p

abbrev pub instrument_root_in : SongIds → ℕ → Option ℕ
instrument_root_in ids at =
    slice_get (map (λ (instrument : InstrumentIds). instrument.root) ids.instruments) at

-- the root of sample s of the instrument at a place
abbrev pub sample_root_in : SongIds → ℕ → ℕ → Option ℕ
sample_root_in ids at s =
    slice_get (map (λ (sample : SampleIds). sample.root) (samples_of ids at)) s

-- the ids of a sample of an instrument of the song
pub record IsSampleOf (ids : SongIds) (sample : SampleIds) : Type 0 where
  pub at : ℕ
  pub number : ℕ
  pub there : slice_get (samples_of ids at) number ≡ Some sample
