-- the first frame of more bits is among those that are left
use Rattle.std.proofs.Common.{◌≡◌, drop}
use Rattle.ft_edits.specs.Faults.{first_wide_frame}
use Rattle.ft_edits.proofs.cause.first_wide_frame.Given as goal

abbrev pub invariant-loop-frame : goal.invariant-loop-frame
invariant-loop-frame l = first_wide_frame (drop l.frame-index l.frames) ≡ first_wide_frame l.frames
