-- Words for lists of parts, and the segments of each part of a song in the order of the walk.
use Rattle.std.specs.Prelude.{ℕ, suc, List, [], ◌∷◌, ◌++◌, Option, None, Some, map, take, drop}
use Rattle.std.specs.List.{flat_map}
use Rattle.ft_segments.specs.Walk.{PatternIds, IndexIds, SampleIds, InstrumentIds}

-- an element put at a place, in place of the one there or behind the last
abbrev pub put : {X : Type 0} → ℕ → X → List X → List X
put place x xs = take place xs ++ (x ∷ drop (suc place) xs)

-- ---- the segments of a part, in the order in which `place` numbers them

abbrev pub pattern_segments : PatternIds → List ℕ
pattern_segments pattern = pattern.root ∷ pattern.bodies

abbrev pub index_roots : SampleIds → List ℕ
index_roots sample = map (λ index. index.root) sample.indexes

abbrev pub body_ids : SampleIds → List ℕ
body_ids sample = flat_map (λ (index : IndexIds). index.bodies) sample.indexes

abbrev pub sample_segments : SampleIds → List ℕ
sample_segments sample = sample.root ∷ index_roots sample ++ body_ids sample

abbrev pub instrument_segments : InstrumentIds → List ℕ
instrument_segments instrument = instrument.root ∷ flat_map sample_segments instrument.samples

-- those of a part that may be missing
abbrev pub segments_if : {X : Type 0} → (X → List ℕ) → Option X → List ℕ
segments_if segments None = []
segments_if segments (Some part) = segments part

-- bodies given to indexes, 1,024 to each
abbrev pub grouped : List ℕ → List ℕ → List IndexIds
grouped [] bodies = []
grouped (root ∷ roots) bodies =
    record { root = root; bodies = take 1024 bodies } ∷ grouped roots (drop 1024 bodies)
