-- those that were passed
use Rattle.std.proofs.Common.{◌≡◌, take}
use Rattle.ft_types.proofs.batch.Batch.copy.Given as goal

abbrev pub invariant-loop-edit : goal.invariant-loop-edit
invariant-loop-edit l = l.edits.items ≡ take l.edit-index l.edit-items
