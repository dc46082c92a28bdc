-- those that were passed are changed
use Rattle.std.proofs.Common.{◌≡◌, ◌++◌, map, take, drop}
use Rattle.ft_edits.specs.Samples.{floor_of}
use Rattle.ft_check.proofs.frames.narrow_all.Given as goal

abbrev pub invariant-loop-frame : goal.invariant-loop-frame
invariant-loop-frame l =
    l.frames ≡ map (λ frame. floor_of frame 256) (take l.frame-index l.fn.frames) ++ drop l.frame-index l.fn.frames
