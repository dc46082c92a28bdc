-- the largest size so far
use Rattle.std.proofs.Common.{◌≡◌, fold, take}
use Rattle.ft_run.specs.Measure.{louder}
use Rattle.ft_run.proofs.measure.raised.Given as goal

abbrev pub invariant-loop-number : goal.invariant-loop-number
invariant-loop-number l = l.most ≡ fold louder l.peak (take l.number-index l.numbers)
