use Rattle.ft_placed.proofs.OfPatterns.{pattern_read}
use Rattle.ft_placed.proofs.patterns.pattern_id.Goals as goal

pub returns-clause-answer : goal.returns-clause-answer
returns-clause-answer g c = λ p m may shows is.
    pattern_read p m c.args.pattern c.pattern_root.result shows (c.pattern_root.ensures.answer p m may shows is)
