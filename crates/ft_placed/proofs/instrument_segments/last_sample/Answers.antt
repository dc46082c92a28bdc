use Rattle.std.proofs.Common.{ℕ, arith}
use Rattle.ft_segments.specs.Walk.{IsOf, ids_of}
use Rattle.ft_placed.proofs.OfInstruments.{instrument_used}
use Rattle.ft_placed.proofs.InInstruments.{no_last, last_there}
use Rattle.ft_placed.proofs.instrument_segments.last_sample.Goals as goal

pub returns-in_default-clause-answer : goal.returns-in_default-clause-answer
returns-in_default-clause-answer g c = λ p m may shows is.
    no_last (ids_of p) c.args.at (c.in_default.ensures.answer p m may shows is)

pub returns-clause-answer : goal.returns-clause-answer
returns-clause-answer g c = λ p m may shows is.
    let found = c.in-Some.found in
    let before = λ (s : ℕ) (of : IsOf p s). c.sample_count.ensures.narrows p s (may s of) in
    let at = c.in-Some.ensures.answer p m before shows is in
    let count = c.sample_count.ensures.answer p (may found (instrument_used p c.args.at found at)) in
    omega (arith, c.saturating_sub.ensures, count, last_there p c.args.at found at)
