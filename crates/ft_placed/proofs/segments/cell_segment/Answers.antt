use Rattle.std.proofs.Common.{◌∙◌}
use Rattle.ft_segments.specs.Walk.{ids_of}
use Rattle.ft_placed.proofs.InOrder.{cell_first, cell_second}
use Rattle.ft_placed.proofs.segments.cell_segment.Goals as goal

pub returns-in-0-clause-answer : goal.returns-in-0-clause-answer
returns-in-0-clause-answer g c = λ p m may shows is has.
    c.pattern_id.ensures.answer p m may shows is ∙ cell_first (ids_of p) c.args.pattern c.args.body c.args.k c.in-0.is

pub returns-in-1-clause-answer : goal.returns-in-1-clause-answer
returns-in-1-clause-answer g c = λ p m may shows is has.
    c.body_id.ensures.answer p m may shows is ∙ cell_second (ids_of p) c.args.pattern c.args.body c.args.k c.in-1.is has
