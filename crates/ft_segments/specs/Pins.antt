-- What a pin of a sample's root holds of a version.
use Rattle.std.specs.Prelude.{◌≡◌, ◌⊎◌, ◌<◌, ℕ, Contains, Some}
use Rattle.std.specs.List.{slice_get}
use Rattle.ft_segments.specs.Walk.{IndexIds, sample_walk, Placed, IsOf}

-- that many ids are in the words of a sample's root, from word 16 on
abbrev pub index_room : ℕ
index_room = 960

-- An index names a segment: itself, or one of its bodies where the index is of the version
abbrev pub IndexNames : Placed → IndexIds → ℕ → Type 0
IndexNames placed index segment =
    (segment ≡ index.root) ⊎ (IsOf placed index.root × Contains index.bodies segment)

-- The root of a sample names a segment, by the words of the version: itself, an index, or what an
-- index names
abbrev pub RootNames : Placed → ℕ → ℕ → Type 0
RootNames placed root segment =
    (segment ≡ root)
    ⊎ ((k : ℕ) × (index : IndexIds) × (k < index_room)
    × (slice_get (sample_walk placed.pool root).indexes k ≡ Some index)
    × IndexNames placed index segment)

-- A pin of the root holds a segment: one that the root names, both being of the version
abbrev pub PinHolds : Placed → ℕ → ℕ → Type 0
PinHolds placed root segment =
    IsOf placed root × IsOf placed segment × RootNames placed root segment
