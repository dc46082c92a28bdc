-- What the laws say.
use Rattle.std.specs.Prelude.{◌≡◌, ℕ, ◌+◌, ◌-◌, ◌*◌, ◌/◌, ◌<◌, ◌≤◌, List, Some, length, take, drop, slice_get, slice_index}
use Rattle.ft_types.specs.declared.module.Module.{Module}
use Rattle.ft_types.specs.Valid.{IsValid}
use Rattle.ft_types.specs.Blocks.{pieces_of}
use Rattle.ft_edits.specs.Lists.{with_stretch}
use Rattle.ft_segments.specs.Walk.{IndexIds, SampleIds, SongIds, Placed, IsOf, SameWords, ids_of, uses, walk}
use Rattle.ft_changes.specs.declared.reach.Reach.{Reach}
use Rattle.ft_changes.specs.Reaches.{needed}
use Rattle.ft_changes.specs.Reached.{IsReached}
use Rattle.ft_changes.specs.Parts.{body_ids}
use Rattle.ft_changes.specs.Ids.{index_count, fresh_bodies, indexes_after, ids_after}
use Rattle.ft_changes.specs.Dropped.{dropped}
use Rattle.ft_changes.specs.Fits.{IsStretch, TakesFresh}
use Rattle.ft_changes.specs.Laws.{named_in}
use Rattle.ft_image.specs.Shown.{Shows}
use Rattle.ft_sharing.specs.Written.{ReachIsWritten}

-- segments of a pool for the next version: each is listed once, and none is the version's
pub record IsFresh (placed : Placed) (fresh : List ℕ) : Type 0 where
  pub once : (segment : ℕ) → named_in segment fresh ≤ 1
  pub apart : (segment : ℕ) → 1 ≤ named_in segment fresh → uses segment (ids_of placed) ≡ 0
  pub within : (segment : ℕ) → 1 ≤ named_in segment fresh → segment < length placed.pool / 256

-- a pool of the same size, in which the segments of the version have the words that they had
pub record KeepsVersion (placed : Placed) (pool : List ℕ) : Type 0 where
  pub size : length pool ≡ length placed.pool
  pub same : (segment : ℕ) → IsOf placed segment → SameWords placed.pool pool segment

-- where a version shows a song, and fresh segments have the words of all that an edit touched, the
-- song after it is shown too, from the first of the fresh segments on; its walk finds the segments
-- that weren't touched, and the fresh ones. The pool has at most 65,536 segments
abbrev pub SharedShows : Type 0
SharedShows =
    (placed : Placed) (old new : Module) (reach : Reach) (fresh pool : List ℕ)
    → Shows placed old → IsValid new → IsReached reach old new
    → length placed.pool ≤ 16777216 → KeepsVersion placed pool
    → IsFresh placed fresh → length fresh ≡ needed reach
    → ReachIsWritten reach pool new (ids_after reach fresh (ids_of placed))
    → (walk pool (slice_index fresh 0) ≡ ids_after reach fresh (ids_of placed))
    × Shows (record { root = slice_index fresh 0; pool = pool }) new

-- the segments of a shown song have all parts that an edit reaches
abbrev pub ReachedFits : Type 0
ReachedFits =
    (placed : Placed) (old new : Module) (reach : Reach) (fresh : List ℕ)
    → Shows placed old → IsReached reach old new → length fresh ≡ needed reach
    → TakesFresh reach fresh (ids_of placed)

-- which bodies and indexes of a sample are fresh, where bodies from one up to another became fresh
-- ones: its bodies are those before with the fresh in place of the stretch, in their order; index k
-- names 1,024 of them from 1,024 k on, and the fresh indexes are in their order too
pub record IsRefilled (first last gone : ℕ) (fresh : List ℕ) (old new : SampleIds) : Type 0 where
  pub bodies : body_ids new
      ≡ with_stretch first gone (λ bodies. fresh_bodies first last fresh) (body_ids old)
  pub count : length new.indexes ≡ pieces_of (length (body_ids new)) 1024
  pub body : (n : ℕ) → first ≤ n → n < last → slice_index (body_ids new) n
      ≡ slice_index fresh (3 + index_count first last + (n - first))
  pub root : (k : ℕ) (index : IndexIds) → first / 1024 ≤ k → k < pieces_of last 1024
      → slice_get new.indexes k ≡ Some index
      → index.root ≡ slice_index fresh (3 + (k - first / 1024))
  pub names : (k : ℕ) (index : IndexIds) → slice_get new.indexes k ≡ Some index
      → index.bodies ≡ take 1024 (drop (1024 * k) (body_ids new))

abbrev pub FreshFrames : Type 0
FreshFrames =
    (first last gone : ℕ) (fresh : List ℕ) (ids : SampleIds) (root : ℕ)
    → IsStretch first last gone ids
    → length fresh ≡ 3 + index_count first last + (last - first)
    → IsRefilled first last gone fresh ids
    (record { root = root; indexes = indexes_after first last gone fresh ids.indexes })

-- a segment after an edit that isn't a fresh one was there before it
abbrev pub OthersWereThere : Type 0
OthersWereThere =
    (reach : Reach) (fresh : List ℕ) (ids : SongIds) (segment : ℕ) → TakesFresh reach fresh ids
    → named_in segment fresh ≡ 0 → 1 ≤ uses segment (ids_after reach fresh ids)
    → 1 ≤ uses segment ids

-- a segment before an edit that isn't dropped is there after it
abbrev pub OthersStay : Type 0
OthersStay =
    (reach : Reach) (fresh : List ℕ) (ids : SongIds) (segment : ℕ) → TakesFresh reach fresh ids
    → named_in segment (dropped reach ids) ≡ 0 → 1 ≤ uses segment ids
    → 1 ≤ uses segment (ids_after reach fresh ids)
