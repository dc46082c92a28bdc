use Rattle.std.proofs.Common.{List, refl, ◌∙◌, arith}
use Rattle.ft_segments.specs.Walk.{SampleIds, InstrumentIds, ids_of}
use Rattle.std.specs.List.{slice_get}
use Rattle.ft_changes.specs.Dropped.{sample_root_of}
use Rattle.ft_changes.specs.Parts.{segments_if}
use Rattle.ft_placed.proofs.InInstruments.{instrument_first, instrument_rest, one_root}
use Rattle.ft_placed.proofs.instrument_segments.sample_root_segment.Goals as goal

pub returns-in-0-clause-answer : goal.returns-in-0-clause-answer
returns-in-0-clause-answer g c = λ p m may shows is.
    c.instrument_id.ensures.answer p m may shows is
    ∙ instrument_first (λ (y : InstrumentIds). segments_if sample_root_of (slice_get y.samples c.args.s)) (ids_of p) c.args.at
    c.args.k c.in-0.is

pub returns-in-1-clause-answer : goal.returns-in-1-clause-answer
returns-in-1-clause-answer g c = λ p m may shows is.
    c.sample_id.ensures.answer p m may shows is
    ∙ one_root (ids_of p) c.args.at c.args.s
    ∙ instrument_rest (λ (xs : List SampleIds). segments_if sample_root_of (slice_get xs c.args.s)) (ids_of p) c.args.at
    c.args.k 0 refl (omega (arith, c.in-1.is))
