use Rattle.std.proofs.Common.{◌-◌, ◌∙◌, arith}
use Rattle.ft_segments.specs.Walk.{ids_of}
use Rattle.ft_placed.proofs.InOrder.{pattern_first, pattern_rest}
use Rattle.ft_placed.proofs.segments.pattern_segment.Goals as goal

pub returns-then-k-eq0-clause-answer : goal.returns-then-k-eq0-clause-answer
returns-then-k-eq0-clause-answer g c = λ p m may shows is.
    c.pattern_id.ensures.answer p m may shows is
    ∙ pattern_first (ids_of p) c.args.pattern c.args.k c.if-k-eq0.true

pub returns-clause-answer : goal.returns-clause-answer
returns-clause-answer g c = λ p m may shows is.
    let test = c.if-k-eq0.false in
    c.body_id.ensures.answer p m may shows is
    ∙ pattern_rest (ids_of p) c.args.pattern c.args.k (c.args.k - 1) (omega arith)
