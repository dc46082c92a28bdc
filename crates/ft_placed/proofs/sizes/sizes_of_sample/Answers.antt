use Rattle.std.proofs.Common.{ℕ, ap, ◌∙◌, arith}
use Rattle.ft_segments.specs.Packing.{digit, id_at}
use Rattle.ft_segments.specs.Walk.{IsOf}
use Rattle.ft_placed.proofs.Walked.{instrument_is}
use Rattle.ft_placed.proofs.Measured.{short_sizes, sample_read, sample_of_root, sample_sizes_read}
use Rattle.ft_placed.proofs.sizes.sizes_of_sample.Goals as goal

pub returns-then-s-samples-clause-answer : goal.returns-then-s-samples-clause-answer
returns-then-s-samples-clause-answer g c = λ p m may shows is.
    let found = c.in-Some.found in
    let has = c.in-Some.ensures.answer p m (λ (s : ℕ) (of : IsOf p s). c.word.ensures.narrows p s (may s of)) shows is in
    let word = c.word.ensures.answer p (may found (instrument_is p m c.args.i found has)) in
    short_sizes p m c.args.i c.args.s found c.byte-samples.result has
    (c.byte-samples.ensures ∙ ap (λ (w : ℕ). digit 256 w 0) word) c.if-s-samples.true

pub returns-clause-answer : goal.returns-clause-answer
returns-clause-answer g c = λ p m may shows is.
    let found = c.in-Some.found in
    let at_head = λ (s : ℕ) (of : IsOf p s). c.sample_head-head.ensures.narrows p s (may s of) in
    let at_id = λ (s : ℕ) (of : IsOf p s). c.id-sample.ensures.narrows p s (at_head s of) in
    let has = c.in-Some.ensures.answer p m (λ (s : ℕ) (of : IsOf p s). c.word.ensures.narrows p s (at_id s of)) shows is in
    let one = instrument_is p m c.args.i found has in
    let word = c.word.ensures.answer p (at_id found one) in
    let samples = c.byte-samples.ensures ∙ ap (λ (w : ℕ). digit 256 w 0) word in
    let test = c.if-s-samples.false in
    let id = c.id-sample.ensures.answer p (at_head found one) ∙ ap (λ (n : ℕ). id_at p.pool found 30 n) c.from.ensures in
    let read = sample_read p m c.args.i c.args.s found c.byte-samples.result c.id-sample.result has samples (omega arith) id in
    let head = c.sample_head-head.ensures.answer p m read.sample (λ s of used. may s of) shows
    (sample_of_root p m c.args.i c.args.s c.id-sample.result read) in
    sample_sizes_read p m c.args.i c.args.s found c.byte-samples.result c.id-sample.result c.min.result c.sample_head-head.result
    shows has samples read head (omega (arith, c.min.ensures))
