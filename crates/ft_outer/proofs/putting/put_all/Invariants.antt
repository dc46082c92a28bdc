use Rattle.std.proofs.Common.{◌≡◌, length}
use Rattle.ft_outer.specs.Pieces.{TakesUpTo}
use Rattle.ft_outer.proofs.putting.put_all.Given as goal

abbrev pub invariant-loop-rest : goal.invariant-loop-rest
invariant-loop-rest g l =
    TakesUpTo (g.S.Sink.held l.fn.sink) (g.S.Sink.held l.sink) l.bytes l.rest
    × (g.S.Sink.faults l.sink ≡ g.S.Sink.faults l.fn.sink)

abbrev pub decreases-loop-rest : goal.decreases-loop-rest
decreases-loop-rest g l = length l.rest
