use Rattle.std.proofs.Common.{◌≡◌, ◌∙◌, ◌+◌, ◌*◌, ◌<◌, ◌≤◌, ℕ, zero, suc, Option, Some, arith, ap, sym}
use Rattle.ft_types.specs.declared.instrument.Instrument.{Instrument}
use Rattle.ft_types.specs.declared.instrument.Envelope.{Envelope}
use Rattle.ft_types.specs.Views.{envelope_in}
use Rattle.ft_types.specs.Valid.{IsValidEnvelope, IsValidInstrument}
use Rattle.ft_segments.specs.Packing.{word_at}
use Rattle.ft_segments.specs.Walk.{Placed, IsOf, instrument_walk}
use Rattle.ft_image.specs.Values.{points_word}
use Rattle.ft_image.specs.Shown.{ShowsInstrument}
use Rattle.ft_image.proofs.Instruments.{chosen, instrument_is, instrument_valid}
use Rattle.ft_image.proofs.instrument_reading.envelope.Goals as goal

chosen_valid : (x : Instrument) (which : ℕ) → which ≤ 1 → IsValidInstrument x → IsValidEnvelope (chosen which x)
chosen_valid x zero le valid = valid.volume
chosen_valid x (suc zero) le valid = valid.panning
chosen_valid x (suc (suc which)) le valid = absurd (omega arith)

chosen_words : (p : Placed) (x : Instrument) (found which k : ℕ) → which ≤ 1
    → ShowsInstrument p.pool x (instrument_walk p.pool found) → k < 6
    → word_at p.pool found (18 + 6 * which + k) ≡ points_word (chosen which x).points k
chosen_words p x found zero k le shown lt =
    ap (λ (n : ℕ). word_at p.pool found n) (omega arith) ∙ shown.volume k lt
chosen_words p x found (suc zero) k le shown lt =
    ap (λ (n : ℕ). word_at p.pool found n) (omega arith) ∙ shown.panning k lt
chosen_words p x found (suc (suc which)) k le shown lt = absurd (omega arith)

pub returns-clause-answer : goal.returns-clause-answer
returns-clause-answer g c = λ p m may shows is.
    let found = c.in-Some.found in
    let which = c.args.which in
    let at_words = λ (s : ℕ) (of : IsOf p s). c.six_words-words.ensures.narrows p s (may s of) in
    let at_places = λ (s : ℕ) (of : IsOf p s). c.word-places.ensures.narrows p s (at_words s of) in
    let has = c.in-Some.ensures.answer p m (λ (s : ℕ) (of : IsOf p s). c.word-counts.ensures.narrows p s (at_places s of)) shows is in
    let one = instrument_is p m c.args.instrument found has in
    let valid = instrument_valid p m c.args.instrument found shows has in
    let counts = c.word-counts.ensures.answer p (at_places found one) ∙ has.shown.counts in
    let places = c.word-places.ensures.answer p (at_words found one) ∙ has.shown.envelopes in
    let words = c.six_words-words.ensures.answer p (may found one) in
    let envelope = chosen_valid has.instrument which c.requires valid in
    let points = c.points_from.ensures (chosen which has.instrument).points envelope.twelve envelope.points
    (λ k lt. words k lt ∙ chosen_words p has.instrument found which k c.requires has.shown lt) in
    ap (λ (e : Envelope). Some e) (c.envelope_from.ensures has.instrument valid counts places points)
    ∙ sym (ap (λ (x : Option Instrument). envelope_in x which) has.stored)
