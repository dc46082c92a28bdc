-- What the laws say.
use Rattle.std.specs.Prelude.{◌≡◌, ℕ, Some, slice_get}
use Rattle.ft_segments.specs.Walk.{PatternIds, SampleIds, InstrumentIds, SongIds}
use Rattle.ft_changes.specs.Ids.{samples_of}
use Rattle.ft_placed.specs.Roots.{pattern_root_in, instrument_root_in, sample_root_in}

-- the root of what is at a place of the ids
abbrev pub PatternRootIsThere : Type 0
PatternRootIsThere =
    (ids : SongIds) (p : ℕ) (pattern : PatternIds)
    → slice_get ids.patterns p ≡ Some pattern → pattern_root_in ids p ≡ Some pattern.root

abbrev pub InstrumentRootIsThere : Type 0
InstrumentRootIsThere =
    (ids : SongIds) (at : ℕ) (instrument : InstrumentIds)
    → slice_get ids.instruments at ≡ Some instrument
    → instrument_root_in ids at ≡ Some instrument.root

abbrev pub SampleRootIsThere : Type 0
SampleRootIsThere =
    (ids : SongIds) (at s : ℕ) (sample : SampleIds)
    → slice_get (samples_of ids at) s ≡ Some sample → sample_root_in ids at s ≡ Some sample.root

-- a root that was read of a place is that of the ids there
abbrev pub PatternOfRoot : Type 0
PatternOfRoot =
    (ids : SongIds) (p root : ℕ) → pattern_root_in ids p ≡ Some root
    → (pattern : PatternIds) × (slice_get ids.patterns p ≡ Some pattern) × (pattern.root ≡ root)

abbrev pub InstrumentOfRoot : Type 0
InstrumentOfRoot =
    (ids : SongIds) (at root : ℕ) → instrument_root_in ids at ≡ Some root
    → (instrument : InstrumentIds) × (slice_get ids.instruments at ≡ Some instrument)
    × (instrument.root ≡ root)

abbrev pub SampleOfRoot : Type 0
SampleOfRoot =
    (ids : SongIds) (at s root : ℕ) → sample_root_in ids at s ≡ Some root
    → (sample : SampleIds) × (slice_get (samples_of ids at) s ≡ Some sample)
    × (sample.root ≡ root)
