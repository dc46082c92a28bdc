-- those that were passed are changed
use Rattle.std.proofs.Common.{◌≡◌, ◌++◌, map, take, drop}
use Rattle.ft_edits.specs.Samples.{scaled_frame}
use Rattle.ft_check.proofs.frames.scale_all.Given as goal

abbrev pub invariant-loop-frame : goal.invariant-loop-frame
invariant-loop-frame l =
    l.frames ≡ map (scaled_frame l.wide l.n l.d) (take l.frame-index l.fn.frames) ++ drop l.frame-index l.fn.frames
