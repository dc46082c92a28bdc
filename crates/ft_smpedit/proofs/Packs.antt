-- Words of rows that have the same numbers there.
use Rattle.std.proofs.Common.{◌≡◌, ◌∙◌, ℕ, zero, suc, ◌+◌, ◌*◌, ◌<◌, List, ℤ, pos, get_or, refl, ap, arith}
use Rattle.std.specs.Int.{w16, cast_unsigned}
use Rattle.ft_segments.specs.Packing as packing
use Rattle.ft_segments.specs.Packing.{packed, ids_word}
use Rattle.ft_image.specs.Values as values
use Rattle.ft_image.specs.Values.{frames_word}

packed_same : (base n : ℕ) (f g : ℕ → ℕ) → ((k : ℕ) → k < n → f k ≡ g k) → packed base n f ≡ packed base n g
packed_same base zero f g same = refl
packed_same base (suc n) f g same =
    ap (λ a. a + base * packed base n (λ i. f (suc i))) (same 0 (omega arith))
    ∙ ap (λ rest. g 0 + base * rest) (packed_same base n (λ i. f (suc i)) (λ i. g (suc i)) (λ k lt. same (suc k) (omega (arith, lt))))

pub same_ids : (xs ys : List ℕ) (k : ℕ) → ((i : ℕ) → i < 4 → get_or xs (k * 4 + i) 0 ≡ get_or ys (k * 4 + i) 0) → ids_word xs k ≡ ids_word ys k
unfolding packing.ids_word
same_ids xs ys k same = packed_same 65536 4 (λ i. get_or xs (k * 4 + i) 0) (λ i. get_or ys (k * 4 + i) 0) same

pub same_frames : (xs ys : List ℤ) (k m : ℕ) → ((i : ℕ) → i < 4 → get_or xs (k * 4 + i) (pos 0) ≡ get_or ys (m * 4 + i) (pos 0))
    → frames_word xs k ≡ frames_word ys m
unfolding values.frames_word
same_frames xs ys k m same =
    packed_same 65536 4 (λ i. cast_unsigned w16 (get_or xs (k * 4 + i) (pos 0))) (λ i. cast_unsigned w16 (get_or ys (m * 4 + i) (pos 0)))
    (λ i lt. ap (cast_unsigned w16) (same i lt))
