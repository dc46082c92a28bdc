use Rattle.std.proofs.Common.{◌≡◌, ◌-◌}
use Rattle.ft_xmread.specs.Identification.{wrong_from}
use Rattle.ft_xmread.proofs.identification.first_wrong.Given as goal

abbrev pub invariant-loop-k : goal.invariant-loop-k
invariant-loop-k l = wrong_from l.k (17 - l.k) l.piece ≡ wrong_from 0 17 l.piece
