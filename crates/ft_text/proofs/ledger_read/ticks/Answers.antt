use Rattle.std.proofs.Common.{rules}
use Rattle.ft_text.proofs.ManyLines.{one_more, none_more, no_line}
use Rattle.ft_text.proofs.ledger_read.ticks.Goals as goal

pub returns-in_default-tick_of : goal.returns-in_default-tick_of
returns-in_default-tick_of c =
    none_more c.in-Some.next c.in-Some.line.now c.loop-line.invariant c.in-Some.ensures (search rules)

pub loop-line-preserved : goal.loop-line-preserved
loop-line-preserved c =
    one_more _ c.in-Some.next c.in-Some.line.now c.in-Some-tick_of.tick c.push.new.self.items c.loop-line.invariant c.in-Some.ensures
    (search rules) (search rules) (search rules)

pub returns : goal.returns
returns c = no_line c.loop-line.invariant c.in_default.ensures
