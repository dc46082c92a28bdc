use Rattle.std.proofs.Common.{rules, length}
use Rattle.ft_retire.proofs.Counting.{counted_anew}
use Rattle.ft_retire.proofs.births.Births.begin.Goals as goal

pub invariant_of-self : goal.invariant_of-self
invariant_of-self c =
    counted_anew c.self.inside.lives.items c.fill.new.self.items (length c.self.inside.marks.items) c.len.result
    c.self.invariant.many c.self.invariant.few (search rules) (search rules)
