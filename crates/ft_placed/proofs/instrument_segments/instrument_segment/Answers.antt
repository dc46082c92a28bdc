use Rattle.std.proofs.Common.{List, ◌-◌, refl, ◌∙◌, arith}
use Rattle.std.specs.List.{flat_map}
use Rattle.ft_segments.specs.Walk.{SampleIds, InstrumentIds, ids_of}
use Rattle.ft_changes.specs.Parts.{sample_segments}
use Rattle.ft_placed.proofs.InInstruments.{instrument_first, instrument_rest}
use Rattle.ft_placed.proofs.instrument_segments.instrument_segment.Goals as goal

pub returns-then-k-eq0-clause-answer : goal.returns-then-k-eq0-clause-answer
returns-then-k-eq0-clause-answer g c = λ p m may shows is.
    c.instrument_id.ensures.answer p m may shows is
    ∙ instrument_first (λ (y : InstrumentIds). flat_map sample_segments y.samples) (ids_of p) c.args.at c.args.k c.if-k-eq0.true

pub returns-clause-answer : goal.returns-clause-answer
returns-clause-answer g c = λ p m may shows is.
    let test = c.if-k-eq0.false in
    c.segment_of_samples.ensures.answer p m may shows is
    ∙ instrument_rest (λ (xs : List SampleIds). flat_map sample_segments xs) (ids_of p) c.args.at c.args.k (c.args.k - 1) refl (omega arith)
