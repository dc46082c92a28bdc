-- What the laws say.
use Rattle.std.specs.Prelude.{◌≡◌, ℕ, ◌/◌, ◌≤◌, List, length, sum_by}
use Rattle.std.specs.List.{range_with_len}
use Rattle.ft_types.specs.declared.module.Module.{Module}
use Rattle.ft_types.specs.Valid.{IsValid}
use Rattle.ft_types.specs.Blocks.{blocks_of}
use Rattle.ft_segments.specs.Walk.{SongIds, Placed, IsOf, IsSound, SameWords, ids_of, uses, walk}
use Rattle.ft_image.specs.Shown.{ShowsParts, Shows}

-- where words stand for a song by ids of that many segments, the walk from its root finds these ids
abbrev pub WalkIsThere : Type 0
WalkIsThere =
    (pool : List ℕ) (song : Module) (ids : SongIds) (segments : ℕ)
    → IsValid song → segments ≤ 65536 → IsSound segments ids → ShowsParts pool song ids
    → walk pool ids.root ≡ ids

-- a version that shows a song shows it still where words change in other segments alone, or are
-- added behind, and its walk finds the same ids; the pool had at most 65,536 segments
abbrev pub ShownStays : Type 0
ShownStays =
    (placed : Placed) (song : Module) (pool : List ℕ)
    → Shows placed song → length placed.pool ≤ 16777216 → length placed.pool ≤ length pool
    → ((segment : ℕ) → IsOf placed segment → SameWords placed.pool pool segment)
    → (walk pool placed.root ≡ ids_of placed)
    × Shows (record { root = placed.root; pool = pool }) song

-- a version that shows a song has as many segments as the song has blocks: how often its walk names
-- each segment of the pool, which is at most once, added up
abbrev pub ShownHasBlocks : Type 0
ShownHasBlocks =
    (placed : Placed) (song : Module) → Shows placed song
    → sum_by (λ segment. uses segment (ids_of placed)) (range_with_len 0 (length placed.pool / 256))
    ≡ blocks_of song
