use Rattle.std.proofs.Common.{◌≡◌, ◌+◌, ◌*◌, ◌<◌, ℕ, List, All, ap, refl, ◌∙◌, arith, inl, inr, ne_eqb, eq-eqb}
use Rattle.std.specs.Prelude.{slice_index, set, length}
use Rattle.std.proofs.lemmas.Bool.{cases_eq}
use Rattle.std.proofs.lemmas.List.{get_or-set_same, get_or-set_other}
use Rattle.ft_segments.specs.Packing.{digit, ids_word}
use Rattle.ft_image.specs.Changed.{IsOneChanged}
use Rattle.ft_image.proofs.Packed.{packed-same}
use Rattle.ft_image.proofs.OneChanged.{one_put}
use Rattle.ft_image.proofs.changing.with_id.Goals as goal

put : (word place id : ℕ) (ids row new : List ℕ) (k : ℕ) → place < 4 → length ids ≡ 4
    → ((i : ℕ) → i < 4 → slice_index ids i ≡ digit 65536 word i)
    → All (λ x. x < 65536) row → IsOneChanged (k * 4 + place) id row new → word ≡ ids_word row k
    → ids_word (set ids place id) 0 ≡ ids_word new k
unfolding ids_word
put word place id ids row new k lt long taken are changed is =
    packed-same 65536 4 (λ i. slice_index (set ids place id) (0 * 4 + i)) (λ i. slice_index (set ids place id) i)
    (λ i l. ap (slice_index (set ids place id)) (omega arith))
    ∙ one_put 65536 4 word place id (k * 4) (set ids place id) row new (omega arith) are is changed
    (λ i l. elim (cases_eq i place) [
      | inl same ↦ ap (slice_index (set ids place id)) same ∙ get_or-set_same ids place id 0 (omega (arith, long, lt))
          ∙ rw (eq-eqb i place same) refl
      | inr ne ↦ get_or-set_other ids place i id 0 ne ∙ taken i l ∙ rw (ne_eqb i place ne) refl
    ])

pub returns : goal.returns
returns c = λ row new k are changed is.
    c.ids_word.ensures
    ∙ ap (λ n. ids_word (set c.loop-i.ids n c.args.id) 0) c.from-2.ensures
    ∙ put c.args.word c.args.place c.args.id c.loop-i.ids row new k c.requires c.loop-i.invariant.0
    (λ i lt. c.loop-i.invariant.1 i (omega (arith, lt, c.loop-i.auto.i-end))) are changed is
