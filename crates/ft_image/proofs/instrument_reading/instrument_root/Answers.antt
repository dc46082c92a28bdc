use Rattle.std.proofs.Common.{ℕ, ap, ◌∙◌, arith}
use Rattle.ft_segments.specs.Packing.{id_at}
use Rattle.ft_image.proofs.Walked.{root_is}
use Rattle.ft_image.proofs.Found.{counts_read}
use Rattle.ft_image.proofs.Instruments.{has_instrument, no_instrument}
use Rattle.ft_image.proofs.instrument_reading.instrument_root.Goals as goal

pub returns-then-from-word-clause-answer : goal.returns-then-from-word-clause-answer
returns-then-from-word-clause-answer g c = λ p m may shows is.
    let word = c.word.ensures.answer p (may c.args.root (root_is p c.args.root is)) in
    let counts = counts_read p m c.args.root c.word.result shows is word in
    let test = c.if-from-word.true in
    no_instrument m c.args.instrument (omega (arith, counts.1, c.from.ensures))

pub returns-clause-answer : goal.returns-clause-answer
returns-clause-answer g c = λ p m may shows is.
    let here = may c.args.root (root_is p c.args.root is) in
    let word = c.word.ensures.answer p (c.id.ensures.narrows p c.args.root here) in
    let counts = counts_read p m c.args.root c.word.result shows is word in
    let test = c.if-from-word.false in
    let some = c.if-instrument-eq0.false in
    has_instrument p m c.args.instrument c.args.root c.id.result shows is (omega arith) (omega (arith, counts.1, c.from.ensures))
    (c.id.ensures.answer p here ∙ ap (λ (i : ℕ). id_at p.pool c.args.root 104 i) c.from-2.ensures)
