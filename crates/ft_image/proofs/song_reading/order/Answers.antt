use Rattle.std.proofs.Common.{◌∙◌}
use Rattle.ft_image.proofs.Walked.{root_is}
use Rattle.ft_image.proofs.Found.{order_read}
use Rattle.ft_image.proofs.song_reading.order.Goals as goal

pub returns-clause-answer : goal.returns-clause-answer
returns-clause-answer g c = λ p m may shows is lt.
    c.byte.ensures
    ∙ order_read p m c.args.root c.args.pos c.word-word.result shows is lt
    (c.word-word.ensures.answer p (may c.args.root (root_is p c.args.root is)))
