-- What the laws say.
use Rattle.std.specs.Prelude.{◌≡◌, ℕ, ◌≤◌, List, slice_get, Some}
use Rattle.ft_types.specs.Limits.{most_frames}
use Rattle.ft_segments.specs.Walk.{SampleIds, InstrumentIds, Placed, IsOf, SameWords, frames_in, ids_of, sample_uses, sample_walk}

-- the walk from a sample's root finds the same ids while the words of its segments stay; the sample
-- has no more frames than a sample may have
abbrev pub SampleStays : Type 0
SampleStays =
    (old new : List ℕ) (root : ℕ) → frames_in old root ≤ most_frames
    → ((segment : ℕ) → 1 ≤ sample_uses segment (sample_walk old root) → SameWords old new segment)
    → sample_walk new root ≡ sample_walk old root

-- the segments of a sample of a version are segments of the version
abbrev pub SampleIsOfIt : Type 0
SampleIsOfIt =
    (placed : Placed) (i n : ℕ) (instrument : InstrumentIds) (sample : SampleIds) (segment : ℕ)
    → slice_get (ids_of placed).instruments i ≡ Some instrument
    → slice_get instrument.samples n ≡ Some sample
    → 1 ≤ sample_uses segment sample → IsOf placed segment
