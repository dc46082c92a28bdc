use Rattle.std.proofs.Common.{ℕ, ap, sym, ◌∙◌, arith}
use Rattle.ft_segments.specs.Packing.{id_at}
use Rattle.ft_segments.specs.Walk.{IsOf}
use Rattle.ft_placed.proofs.OfInstruments.{instrument_used, sample_read, sample_absent, no_samples}
use Rattle.ft_placed.proofs.instruments.sample_id.Goals as goal

pub returns-in_default-clause-answer : goal.returns-in_default-clause-answer
returns-in_default-clause-answer g c = λ p m may shows is.
    sym (no_samples p c.args.at c.args.s (c.in_default.ensures.answer p m may shows is))

pub returns-then-s-sample_count-clause-answer : goal.returns-then-s-sample_count-clause-answer
returns-then-s-sample_count-clause-answer g c = λ p m may shows is.
    let found = c.in-Some.found in
    let before = λ (s : ℕ) (of : IsOf p s). c.sample_count.ensures.narrows p s (may s of) in
    let at = c.in-Some.ensures.answer p m before shows is in
    let count = c.sample_count.ensures.answer p (may found (instrument_used p c.args.at found at)) in
    let test = c.if-s-sample_count.true in
    sym (sample_absent p c.args.at found c.args.s at (omega (arith, count)))

pub returns-clause-answer : goal.returns-clause-answer
returns-clause-answer g c = λ p m may shows is.
    let found = c.in-Some.found in
    let at_count = λ (s : ℕ) (of : IsOf p s). c.id.ensures.narrows p s (may s of) in
    let before = λ (s : ℕ) (of : IsOf p s). c.sample_count.ensures.narrows p s (at_count s of) in
    let at = c.in-Some.ensures.answer p m before shows is in
    let used = instrument_used p c.args.at found at in
    let count = c.sample_count.ensures.answer p (at_count found used) in
    let test = c.if-s-sample_count.false in
    sample_read p c.args.at found c.args.s c.id.result at (omega (arith, count))
    (c.id.ensures.answer p (may found used) ∙ ap (λ (i : ℕ). id_at p.pool found 30 i) c.from.ensures)
