use Rattle.std.proofs.Common.{◌≡◌, ◌+◌, ◌*◌, ◌<◌, ℕ, List, All, ap, refl, ◌∙◌, arith, inl, inr, ne_eqb, eq-eqb}
use Rattle.std.specs.Prelude.{slice_index, set, length}
use Rattle.std.proofs.lemmas.Bool.{cases_eq}
use Rattle.std.proofs.lemmas.List.{get_or-set_same, get_or-set_other}
use Rattle.ft_segments.specs.Packing.{digit, bytes_word}
use Rattle.ft_image.specs.Changed.{IsOneChanged}
use Rattle.ft_image.proofs.Packed.{packed-same}
use Rattle.ft_image.proofs.OneChanged.{one_put}
use Rattle.ft_image.proofs.changing.with_byte.Goals as goal

put : (word place b : ℕ) (bytes row new : List ℕ) (k : ℕ) → place < 8 → length bytes ≡ 8
    → ((i : ℕ) → i < 8 → slice_index bytes i ≡ digit 256 word i)
    → All (λ x. x < 256) row → IsOneChanged (k * 8 + place) b row new → word ≡ bytes_word row k
    → bytes_word (set bytes place b) 0 ≡ bytes_word new k
unfolding bytes_word
put word place b bytes row new k lt long taken are changed is =
    packed-same 256 8 (λ i. slice_index (set bytes place b) (0 * 8 + i)) (λ i. slice_index (set bytes place b) i)
    (λ i l. ap (slice_index (set bytes place b)) (omega arith))
    ∙ one_put 256 8 word place b (k * 8) (set bytes place b) row new (omega arith) are is changed
    (λ i l. elim (cases_eq i place) [
      | inl same ↦ ap (slice_index (set bytes place b)) same ∙ get_or-set_same bytes place b 0 (omega (arith, long, lt))
          ∙ rw (eq-eqb i place same) refl
      | inr ne ↦ get_or-set_other bytes place i b 0 ne ∙ taken i l ∙ rw (ne_eqb i place ne) refl
    ])

pub returns : goal.returns
returns c = λ row new k are changed is.
    c.bytes_word.ensures
    ∙ ap (λ n. bytes_word (set c.loop-i.bytes n c.args.b) 0) c.from-2.ensures
    ∙ put c.args.word c.args.place c.args.b c.loop-i.bytes row new k c.requires c.loop-i.invariant.0
    (λ i lt. c.loop-i.invariant.1 i (omega (arith, lt, c.loop-i.auto.i-end))) are changed is
