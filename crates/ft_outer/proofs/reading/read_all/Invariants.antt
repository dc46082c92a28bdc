use Rattle.std.proofs.Common.{◌-◌, length}
use Rattle.ft_outer.proofs.Gave.{HasRead}
use Rattle.ft_outer.proofs.reading.read_all.Given as goal

abbrev pub invariant-loop-bytes : goal.invariant-loop-bytes
invariant-loop-bytes g l =
    HasRead (g.S.Source.left l.fn.source) (g.S.Source.left l.source) (g.S.Source.given l.fn.source)
    (g.S.Source.given l.source)
    (g.S.Source.faults l.fn.source) (g.S.Source.faults l.source) l.most l.bytes.items l.buffer.items

abbrev pub decreases-loop-bytes : goal.decreases-loop-bytes
decreases-loop-bytes g l = l.most - length l.bytes.items
