-- those that were read
use Rattle.std.proofs.Common.{take, All}
use Rattle.std.specs.Prelude.{FitsSigned}
use Rattle.std.specs.Int.{w16}
use Rattle.ft_types.proofs.edit_parts.all_of.Given as goal

abbrev pub invariant-loop-frame : goal.invariant-loop-frame
invariant-loop-frame l = All (FitsSigned w16) (take l.frame-index l.frames)
