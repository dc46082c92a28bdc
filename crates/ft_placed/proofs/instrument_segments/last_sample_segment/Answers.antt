use Rattle.std.proofs.Common.{ℕ, List, length, refl, ap, ◌-◌, ◌∙◌, arith}
use Rattle.ft_segments.specs.Walk.{IsOf, SampleIds, InstrumentIds, ids_of}
use Rattle.std.specs.List.{slice_get}
use Rattle.ft_changes.specs.Ids.{samples_of}
use Rattle.ft_changes.specs.Parts.{sample_segments, segments_if}
use Rattle.ft_placed.proofs.InInstruments.{instrument_first, instrument_rest}
use Rattle.ft_placed.proofs.instrument_segments.last_sample_segment.Goals as goal

pub returns-then-k-eq0-clause-answer : goal.returns-then-k-eq0-clause-answer
returns-then-k-eq0-clause-answer g c = λ p m may shows is.
    c.instrument_id.ensures.answer p m may shows is
    ∙ instrument_first (λ (y : InstrumentIds). segments_if sample_segments (slice_get y.samples (length y.samples - 1)))
    (ids_of p) c.args.at c.args.k c.if-k-eq0.true

pub returns-clause-answer : goal.returns-clause-answer
returns-clause-answer g c = λ p m may shows is.
    let test = c.if-k-eq0.false in
    let before = λ (s : ℕ) (of : IsOf p s). c.segment_of_sample.ensures.narrows p s (may s of) in
    let last = c.last_sample-last.ensures.answer p m before shows is in
    c.segment_of_sample.ensures.answer p m may shows is
    ∙ ap (λ (s : ℕ). slice_get (segments_if sample_segments (slice_get (samples_of (ids_of p) c.args.at) s)) (c.args.k - 1)) last
    ∙ instrument_rest (λ (xs : List SampleIds). segments_if sample_segments (slice_get xs (length xs - 1))) (ids_of p) c.args.at
    c.args.k (c.args.k - 1) refl (omega arith)
