use Rattle.std.proofs.Common.{◌∙◌}
use Rattle.ft_image.proofs.Walked.{at_root, root_is}
use Rattle.ft_image.proofs.song_reading.head.Goals as goal

pub returns-clause-answer : goal.returns-clause-answer
returns-clause-answer g c = λ p m may shows is.
    c.head_from.ensures m shows.valid
    (c.word.ensures.answer p (may c.args.root (root_is p c.args.root is)) ∙ at_root p c.args.root 0 is ∙ shows.stands.root.head)
