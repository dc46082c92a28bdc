use Rattle.std.proofs.Common.{◌∙◌}
use Rattle.ft_songedit.proofs.Stored.{root_is, channels_read}
use Rattle.ft_songedit.proofs.pattern_cells.channels_of.Goals as goal

pub returns-clause-answer : goal.returns-clause-answer
returns-clause-answer g c = λ p m may shows is.
    c.byte.ensures
    ∙ channels_read p m c.args.root c.word.result shows is (c.word.ensures.answer p (may c.args.root (root_is p c.args.root is)))
