use Rattle.std.proofs.Common.{ℕ, Option, ap, sym, ◌∙◌}
use Rattle.std.specs.List.{slice_get}
use Rattle.ft_segments.specs.Walk.{IsOf, SampleIds, ids_of}
use Rattle.ft_changes.specs.Parts.{sample_segments, segments_if}
use Rattle.ft_placed.proofs.InInstruments.{sample_there, no_segments}
use Rattle.ft_placed.proofs.instrument_segments.segment_of_sample.Goals as goal

pub returns-in_default-clause-answer : goal.returns-in_default-clause-answer
returns-in_default-clause-answer g c = λ p m may shows is.
    no_segments sample_segments (ids_of p) c.args.at c.args.s c.args.k (c.in_default.ensures.answer p m may shows is)

pub returns-clause-answer : goal.returns-clause-answer
returns-clause-answer g c = λ p m may shows is.
    let before = λ (s : ℕ) (of : IsOf p s). c.sample_segment.ensures.narrows p s (may s of) in
    let one = sample_there (ids_of p) c.args.at c.args.s c.in-Some.sample (c.in-Some.ensures.answer p m before shows is) in
    c.sample_segment.ensures.answer p m one.0 may shows (record { at = c.args.at; number = c.args.s; there = one.1 }) one.2
    ∙ ap (λ (o : Option SampleIds). slice_get (segments_if sample_segments o) c.args.k) (sym one.1)
