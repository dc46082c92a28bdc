use Rattle.std.proofs.Common.{ℕ, List, Option, refl, ap, sym, ◌-◌, ◌∙◌, arith}
use Rattle.ft_segments.specs.Walk.{IsOf, SampleIds, InstrumentIds, ids_of}
use Rattle.std.specs.List.{slice_get}
use Rattle.ft_changes.specs.Dropped.{root_and_stretch}
use Rattle.ft_changes.specs.Parts.{segments_if}
use Rattle.ft_placed.proofs.InInstruments.{instrument_first, instrument_rest, sample_there, no_segments, stretch_there}
use Rattle.ft_placed.proofs.instrument_segments.frames_segment.Goals as goal

pub returns-then-k-eq0-clause-answer : goal.returns-then-k-eq0-clause-answer
returns-then-k-eq0-clause-answer g c = λ p m last may shows is has.
    c.instrument_id.ensures.answer p m may shows is
    ∙ instrument_first
    (λ (y : InstrumentIds). segments_if (root_and_stretch c.args.first c.args.gone) (slice_get y.samples c.args.s))
    (ids_of p) c.args.at c.args.k c.if-k-eq0.true

pub returns-in_default-clause-answer : goal.returns-in_default-clause-answer
returns-in_default-clause-answer g c = λ p m last may shows is has.
    let test = c.if-k-eq0.false in
    no_segments (root_and_stretch c.args.first c.args.gone) (ids_of p) c.args.at c.args.s (c.args.k - 1)
    (c.in_default.ensures.answer p m may shows is)
    ∙ instrument_rest
    (λ (xs : List SampleIds). segments_if (root_and_stretch c.args.first c.args.gone) (slice_get xs c.args.s)) (ids_of p) c.args.at
    c.args.k (c.args.k - 1) refl (omega arith)

pub returns-clause-answer : goal.returns-clause-answer
returns-clause-answer g c = λ p m last may shows is has.
    let test = c.if-k-eq0.false in
    let before = λ (s : ℕ) (of : IsOf p s). c.stretch_segment.ensures.narrows p s (may s of) in
    let one = sample_there (ids_of p) c.args.at c.args.s c.in-Some.sample (c.in-Some.ensures.answer p m before shows is) in
    let stretch = stretch_there (ids_of p) c.args.at c.args.s c.args.first last c.args.gone one.0 has one.1 in
    c.stretch_segment.ensures.answer p m one.0 last may shows
    (record { at = c.args.at; number = c.args.s; there = one.1 }) one.2 stretch
    ∙ ap (λ (o : Option SampleIds). slice_get (segments_if (root_and_stretch c.args.first c.args.gone) o) (c.args.k - 1)) (sym one.1)
    ∙ instrument_rest
    (λ (xs : List SampleIds). segments_if (root_and_stretch c.args.first c.args.gone) (slice_get xs c.args.s)) (ids_of p) c.args.at
    c.args.k (c.args.k - 1) refl (omega arith)
