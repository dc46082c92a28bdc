-- those that were passed are changed
use Rattle.std.proofs.Common.{◌≡◌, ◌++◌, map, take, drop}
use Rattle.std.specs.Prelude.{pos, ◌*ℤ◌}
use Rattle.ft_check.proofs.frames.widen_all.Given as goal

abbrev pub invariant-loop-frame : goal.invariant-loop-frame
invariant-loop-frame l =
    l.frames ≡ map (λ frame. pos 256 *ℤ frame) (take l.frame-index l.fn.frames) ++ drop l.frame-index l.fn.frames
