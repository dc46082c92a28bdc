use Rattle.std.proofs.Common.{ℕ}
use Rattle.ft_segments.specs.Walk.{IsOf, ids_of}
use Rattle.ft_placed.proofs.InInstruments.{no_instrument, instrument_length}
use Rattle.ft_placed.proofs.instrument_segments.instrument_size.Goals as goal

pub returns-in_default-clause-answer : goal.returns-in_default-clause-answer
returns-in_default-clause-answer g c = λ p m may shows is.
    no_instrument (ids_of p) c.args.at (c.in_default.ensures.answer p m may shows is)

pub returns-clause-answer : goal.returns-clause-answer
returns-clause-answer g c = λ p m may shows is.
    let before = λ (s : ℕ) (of : IsOf p s). c.size_of_samples.ensures.narrows p s (may s of) in
    instrument_length p c.args.at c.in-Some.field-0 c.size_of_samples.result (c.in-Some.ensures.answer p m before shows is)
    (c.size_of_samples.ensures.answer p m may shows is)
