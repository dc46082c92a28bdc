use Rattle.std.proofs.Common.{◌≡◌, ◌∙◌, ◌<◌, Bool, false, length, get_or, pos, ap, sym, subst, arith, rules, w8, w16, to_z, of_z, ℤ, FitsSigned}
use Rattle.std.proofs.lemmas.Int.{to_z-of_z}
use Rattle.ft_types.specs.Valid.{width_of}
use Rattle.ft_smpedit.specs.Sources.{frame_changed}
use Rattle.ft_smpedit.proofs.reading.frame_after.Goals as goal

pub returns-in-Changed-clause-answer : goal.returns-in-Changed-clause-answer
returns-in-Changed-clause-answer g c = λ p x reads wide named lt kept.
    let e = c.args.e.now in
    let place = c.in-Changed.place in
    let before = c.kept_frame-before.result in
    let old = get_or x.frames place (pos 0) in
    let valid = c.a_shown_sample_is_of_its_version.ensures.valid p reads.song c.args.sample x reads.shows reads.of in
    let few : length x.frames < 4294967296 = omega (arith, valid.few_frames) in
    let there = c.in-Changed.ensures.there x few named lt in
    let fits : FitsSigned w16 before = search rules in
    let back = to_z-of_z w16 before fits ∙ c.kept_frame-before.ensures.answer p x reads there kept in
    let narrow : c.args.wide ≡ false → FitsSigned w8 (to_z w16 (of_z w16 before)) = λ is.
    subst (λ (v : ℤ). FitsSigned w8 v) (sym back)
    (subst (λ (b : Bool). FitsSigned (width_of b) old) (sym wide ∙ is) (valid.frames place (pos 0) there)) in
    let value = c.value_of.ensures (length x.frames) named narrow in
    let in_range : FitsSigned w16 c.value_of.result = search rules in
    to_z-of_z w16 c.value_of.result in_range ∙ value ∙ ap (λ (v : ℤ). frame_changed e c.args.wide v) back
    ∙ ap (λ (b : Bool). frame_changed e b old) wide ∙ sym (c.in-Changed.ensures.frame x few named lt)

pub returns-in-Given-clause-answer : goal.returns-in-Given-clause-answer
returns-in-Given-clause-answer g c = λ p x reads wide named lt kept.
    let valid = c.a_shown_sample_is_of_its_version.ensures.valid p reads.song c.args.sample x reads.shows reads.of in
    let few : length x.frames < 4294967296 = omega (arith, valid.few_frames) in
    let fits : FitsSigned w16 c.in-Given.frame = search rules in
    to_z-of_z w16 c.in-Given.frame fits ∙ sym (c.in-Given.ensures.frame x few named lt)
