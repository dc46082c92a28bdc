-- An edit, or a batch of them, applied to a song: the new song, or why it is refused.
use Rattle.std.specs.Prelude.{ℕ, ◌+◌, List, [], ◌∷◌, Option, None, Some, Result, Ok, Err}
use Rattle.ft_types.specs.declared.module.Module.{Module}
use Rattle.ft_types.specs.declared.edit.Edit.{Edit}
use Rattle.ft_types.specs.declared.edit_fault.EditFault.{EditFault}
use Rattle.ft_edits.specs.Faults.{fault_of}
use Rattle.ft_edits.specs.Edited.{edited}

-- a song, where there is no fault
abbrev pub unless_fault : {F : Type 0} → Option F → Module → Result Module F
unless_fault None song = Ok song
unless_fault (Some fault) song = Err fault

unfoldable pub apply : Module → Edit → Result Module EditFault
apply song edit = unless_fault (fault_of song edit) (edited song edit)

-- ---- batches

-- the fault of an edit, and its place in the batch, from 0
pub record BatchRefusal : Type 0 where
  pub at : ℕ
  pub fault : EditFault

-- the edits one after the other, counted from a place
abbrev pub go_on : ℕ → (Module → Result Module BatchRefusal) → Result Module EditFault
    → Result Module BatchRefusal
go_on at rest (Ok song) = rest song
go_on at rest (Err fault) = Err (record { at = at; fault = fault })

abbrev pub apply_from : ℕ → List Edit → Module → Result Module BatchRefusal
apply_from at [] song = Ok song
apply_from at (edit ∷ edits) song = go_on at (apply_from (at + 1) edits) (apply song edit)

abbrev pub apply_batch : Module → List Edit → Result Module BatchRefusal
apply_batch song batch = apply_from 0 batch song
