use Rattle.ft_image.proofs.Found.{pattern_is, rows_read}
use Rattle.std.proofs.Common.{ℕ}
use Rattle.ft_segments.specs.Walk.{IsOf}
use Rattle.ft_image.proofs.pattern_reading.rows.Goals as goal

pub returns-clause-answer : goal.returns-clause-answer
returns-clause-answer g c = λ p m may shows is.
    let before = λ (s : ℕ) (of : IsOf p s). c.word.ensures.narrows p s (may s of) in
    let has = c.in-Some.ensures.answer p m before shows is in
    let word = c.word.ensures.answer p (may c.in-Some.found (pattern_is p m c.args.pattern c.in-Some.found has)) in
    (rows_read p m c.args.pattern c.in-Some.found c.word.result shows has word).0
