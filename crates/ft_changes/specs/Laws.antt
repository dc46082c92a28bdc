-- What the laws say.
use Rattle.std.specs.Prelude.{◌≡◌, ℕ, ◌+◌, ◌≤◌, List, None, sum_by}
use Rattle.ft_types.specs.declared.module.Module.{Module}
use Rattle.ft_types.specs.declared.edit.Edit.{Edit}
use Rattle.ft_types.specs.Valid.{IsValid}
use Rattle.ft_edits.specs.Faults.{fault_of}
use Rattle.ft_edits.specs.Edited.{edited}
use Rattle.ft_segments.specs.Walk.{SongIds, is_it, uses}
use Rattle.ft_changes.specs.declared.reach.Reach.{Reach}
use Rattle.ft_changes.specs.Reaches.{reach_of}
use Rattle.ft_changes.specs.Reached.{IsReached}
use Rattle.ft_changes.specs.Ids.{ids_after}
use Rattle.ft_changes.specs.Dropped.{dropped}
use Rattle.ft_changes.specs.Fits.{IsThere, TakesFresh}

-- an edit that isn't refused changes nothing of a valid song but what it reaches
abbrev pub EditReaches : Type 0
EditReaches =
    (song : Module) (edit : Edit) → IsValid song → fault_of song edit ≡ None
    → IsReached (reach_of song edit) song (edited song edit)

-- how often ids name a segment
abbrev pub named_in : ℕ → List ℕ → ℕ
named_in segment ids = sum_by (is_it segment) ids

-- the segments after an edit and those that it drops are, together, those before it and the fresh
abbrev pub SegmentsBalance : Type 0
SegmentsBalance =
    (reach : Reach) (fresh : List ℕ) (ids : SongIds) (segment : ℕ) → TakesFresh reach fresh ids
    → uses segment (ids_after reach fresh ids) + named_in segment (dropped reach ids)
    ≡ uses segment ids + named_in segment fresh

-- the segments that it drops are of those before it
abbrev pub DroppedWereUsed : Type 0
DroppedWereUsed =
    (reach : Reach) (ids : SongIds) (segment : ℕ) → IsThere reach ids
    → named_in segment (dropped reach ids) ≤ uses segment ids
