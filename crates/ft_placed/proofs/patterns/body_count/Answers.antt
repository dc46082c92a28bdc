use Rattle.std.proofs.Common.{◌∙◌}
use Rattle.ft_placed.proofs.Walked.{root_is, pattern_is}
use Rattle.ft_placed.proofs.OfPatterns.{count_read}
use Rattle.ft_placed.proofs.patterns.body_count.Goals as goal

pub returns-clause-answer : goal.returns-clause-answer
returns-clause-answer g c = λ p m k may shows is has.
    let found = c.args.pattern in
    let head = c.word.ensures.answer p (may c.args.root (root_is p c.args.root is)) in
    let rows = c.word-rows.ensures.answer p (c.word.ensures.narrows p found (may found (pattern_is p m k found has))) in
    c.min.ensures
    ∙ count_read p m k c.args.root found c.word-rows.result c.word.result c.from-channels.result shows is has rows head
    (c.from-channels.ensures ∙ c.byte.ensures)
