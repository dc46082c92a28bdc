use Rattle.ft_placed.proofs.Walked.{root_is}
use Rattle.ft_placed.proofs.Measured.{song_read}
use Rattle.ft_placed.proofs.sizes.sizes_of_song.Goals as goal

pub returns-clause-answer : goal.returns-clause-answer
returns-clause-answer g c = λ p m may shows is.
    let here = may c.args.root (root_is p c.args.root is) in
    song_read p m c.args.root c.word-head.result c.word-counts.result c.byte.result c.quarter.result c.quarter-2.result
    c.quarter-3.result shows is
    (c.word-head.ensures.answer p (c.word-counts.ensures.narrows p c.args.root here))
    (c.word-counts.ensures.answer p here)
    c.byte.ensures c.quarter.ensures c.quarter-2.ensures c.quarter-3.ensures
