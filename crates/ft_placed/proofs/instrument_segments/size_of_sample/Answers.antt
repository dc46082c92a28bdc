use Rattle.std.proofs.Common.{ℕ, Option, length, ap, sym, ◌∙◌}
use Rattle.ft_segments.specs.Walk.{IsOf, SampleIds, ids_of}
use Rattle.ft_changes.specs.Parts.{sample_segments, segments_if}
use Rattle.ft_placed.proofs.InInstruments.{sample_there, nothing_there}
use Rattle.ft_placed.proofs.instrument_segments.size_of_sample.Goals as goal

pub returns-in_default-clause-answer : goal.returns-in_default-clause-answer
returns-in_default-clause-answer g c = λ p m may shows is.
    nothing_there sample_segments (ids_of p) c.args.at c.args.s (c.in_default.ensures.answer p m may shows is)

pub returns-clause-answer : goal.returns-clause-answer
returns-clause-answer g c = λ p m may shows is.
    let before = λ (s : ℕ) (of : IsOf p s). c.sample_size.ensures.narrows p s (may s of) in
    let one = sample_there (ids_of p) c.args.at c.args.s c.in-Some.sample (c.in-Some.ensures.answer p m before shows is) in
    c.sample_size.ensures.answer p m one.0 may shows (record { at = c.args.at; number = c.args.s; there = one.1 }) one.2
    ∙ ap (λ (o : Option SampleIds). length (segments_if sample_segments o)) (sym one.1)
