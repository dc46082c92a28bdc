use Rattle.std.proofs.Common.{◌≡◌, ◌∙◌, ℕ, Option, Some, refl, ap, sym}
use Rattle.ft_types.specs.declared.instrument.Instrument.{Instrument}
use Rattle.ft_types.specs.declared.instrument.Shape.{Shape}
use Rattle.ft_types.specs.Views.{shape_in}
use Rattle.ft_segments.specs.Walk.{IsOf}
use Rattle.ft_image.proofs.Instruments.{instrument_is, instrument_valid}
use Rattle.ft_image.proofs.instrument_reading.shape.Goals as goal

pub returns-clause-answer : goal.returns-clause-answer
returns-clause-answer g c = λ p m may shows is.
    let found = c.in-Some.found in
    let before = λ (s : ℕ) (of : IsOf p s). c.word-fadeout.ensures.narrows p s (may s of) in
    let has = c.in-Some.ensures.answer p m (λ (s : ℕ) (of : IsOf p s). c.word-counts.ensures.narrows p s (before s of)) shows is in
    let one = instrument_is p m c.args.instrument found has in
    let counts = c.word-counts.ensures.answer p (before found one) ∙ has.shown.counts in
    let fadeout = c.word-fadeout.ensures.answer p (may found one) ∙ has.shown.fadeout in
    let shape = c.shape_from.ensures has.instrument (instrument_valid p m c.args.instrument found shows has) counts fadeout in
    let made : ◌≡◌ {A = Shape} c.shape_from.result (record { vibrato = has.instrument.vibrato; fadeout = has.instrument.fadeout })
    = rw (sym shape.0, sym shape.1) refl in
    ap (λ (s : Shape). Some s) made ∙ sym (ap (λ (x : Option Instrument). shape_in x) has.stored)
