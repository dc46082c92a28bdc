use Rattle.std.proofs.Common.{ne_eqb}
use Rattle.ft_roots.proofs.sample.put_loop.Goals as goal

pub returns-then-kind-eq0 : goal.returns-then-kind-eq0
returns-then-kind-eq0 c = λ x ids new valid many has. rw c.if-kind-eq0.true (c.put_numbers.ensures x ids new valid many has)

pub returns-else-kind-eq0 : goal.returns-else-kind-eq0
returns-else-kind-eq0 c = λ x ids new valid many has.
    rw (ne_eqb c.args.kind 0 c.if-kind-eq0.false) (c.put_numbers-else-kind-eq0.ensures x ids new valid many has)
