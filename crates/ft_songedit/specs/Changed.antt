-- What is answered of an edit that isn't refused.
use Rattle.std.specs.Prelude.{◌≡◌, None, length}
use Rattle.ft_types.specs.declared.module.Module.{Module}
use Rattle.ft_types.specs.declared.edit.Edit.{Edit}
use Rattle.ft_edits.specs.Faults.{fault_of}
use Rattle.ft_segments.specs.Walk.{Placed, ids_of}
use Rattle.ft_changes.specs.Reaches.{reach_of, needed}
use Rattle.ft_changes.specs.Dropped.{dropped}
use Rattle.ft_songedit.specs.declared.change.Change.{Change}

-- of the song that a version shows: how far the edit reaches, how many segments it fills, and how
-- many it drops
pub record IsChangeOf (placed : Placed) (song : Module) (edit : Edit) (change : Change) : Type 0
  where
    pub allowed : fault_of song edit ≡ None
    pub root : change.root ≡ placed.root
    pub reach : change.reach ≡ reach_of song edit
    pub need : change.need ≡ needed change.reach
    pub drops : change.drops ≡ length (dropped change.reach (ids_of placed))
