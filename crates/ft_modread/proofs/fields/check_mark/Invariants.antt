use Rattle.std.proofs.Common.{◌≡◌, ◌-◌}
use Rattle.ft_modread.specs.ModFields.{mark_from}
use Rattle.ft_modread.proofs.fields.check_mark.Given as goal

abbrev pub invariant-loop-k : goal.invariant-loop-k
invariant-loop-k l = mark_from l.k (4 - l.k) l.mark ≡ mark_from 0 4 l.mark
