use Rattle.std.proofs.Common.{◌≡◌, ◌∙◌, ℕ, Some, arith, ap, sym}
use Rattle.std.specs.Prelude.{is_some}
use Rattle.ft_segments.specs.Packing.{id_at}
use Rattle.ft_segments.specs.Walk.{IsOf}
use Rattle.ft_image.specs.Read.{mapped_sample}
use Rattle.ft_image.proofs.Instruments.{instrument_is, map_read, samples_read, sample_absent, sample_found, nothing, alike}
use Rattle.ft_image.proofs.instrument_reading.sample_root.Goals as goal

pub returns-in_default-clause-answer : goal.returns-in_default-clause-answer
returns-in_default-clause-answer g c = λ p m may shows is.
    let none = c.in_default.ensures.answer p m may shows is in
    sym (nothing p m c.args.instrument (mapped_sample m c.args.instrument c.args.note) shows none).0

pub returns-in_default-clause-missing : goal.returns-in_default-clause-missing
returns-in_default-clause-missing g c = λ p m may shows is.
    ap is_some (returns-in_default-clause-answer g c p m may shows is)
    ∙ alike p m c.args.instrument (mapped_sample m c.args.instrument c.args.note) shows

pub returns-then-number-byte-clause-answer : goal.returns-then-number-byte-clause-answer
returns-then-number-byte-clause-answer g c = λ p m may shows is.
    let found = c.in-Some.found in
    let number = c.args.instrument in
    let before = λ (s : ℕ) (of : IsOf p s). c.word-map.ensures.narrows p s (may s of) in
    let has = c.in-Some.ensures.answer p m (λ (s : ℕ) (of : IsOf p s). c.word-counts.ensures.narrows p s (before s of)) shows is in
    let one = instrument_is p m number found has in
    let samples = c.byte.ensures ∙ samples_read p m number found c.word-counts.result shows has (c.word-counts.ensures.answer p
    (before found one)) in
    let named = c.byte-number.ensures ∙ map_read p m number found c.args.note c.word-map.result shows has c.requires
    (c.word-map.ensures.answer p (may found one)) in
    let test = c.if-number-byte.true in
    sym (sample_absent p m number found (mapped_sample m number c.args.note) shows has (omega (arith, samples, named))).0

pub returns-then-number-byte-clause-missing : goal.returns-then-number-byte-clause-missing
returns-then-number-byte-clause-missing g c = λ p m may shows is.
    ap is_some (returns-then-number-byte-clause-answer g c p m may shows is)
    ∙ alike p m c.args.instrument (mapped_sample m c.args.instrument c.args.note) shows

pub returns-clause-answer : goal.returns-clause-answer
returns-clause-answer g c = λ p m may shows is.
    let found = c.in-Some.found in
    let number = c.args.instrument in
    let at_map = λ (s : ℕ) (of : IsOf p s). c.id.ensures.narrows p s (may s of) in
    let before = λ (s : ℕ) (of : IsOf p s). c.word-map.ensures.narrows p s (at_map s of) in
    let has = c.in-Some.ensures.answer p m (λ (s : ℕ) (of : IsOf p s). c.word-counts.ensures.narrows p s (before s of)) shows is in
    let one = instrument_is p m number found has in
    let samples = c.byte.ensures ∙ samples_read p m number found c.word-counts.result shows has (c.word-counts.ensures.answer p
    (before found one)) in
    let named = c.byte-number.ensures ∙ map_read p m number found c.args.note c.word-map.result shows has c.requires
    (c.word-map.ensures.answer p (at_map found one)) in
    let test = c.if-number-byte.false in
    let id : c.id.result ≡ id_at p.pool found 30 (mapped_sample m number c.args.note)
    = c.id.ensures.answer p (may found one) ∙ ap (λ (i : ℕ). id_at p.pool found 30 i) (c.from.ensures ∙ named) in
    ap (λ (s : ℕ). Some s) id
    ∙ sym (sample_found p m number found (mapped_sample m number c.args.note) shows has (omega (arith, samples, named)))

pub returns-clause-missing : goal.returns-clause-missing
returns-clause-missing g c = λ p m may shows is.
    ap is_some (returns-clause-answer g c p m may shows is)
    ∙ alike p m c.args.instrument (mapped_sample m c.args.instrument c.args.note) shows
