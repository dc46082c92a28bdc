-- Frames, of which the last may be missing.
use Rattle.std.proofs.Common.{◌≡◌, ℕ, zero, suc, ◌+◌, ◌-◌, ◌≤◌, ℤ, pos, List, [], ◌∷◌, ◌++◌, length, map, replicate, refl, sym, ap, ◌∙◌, append_assoc, arith}
use Rattle.std.specs.Int.{w8, cast_signed}
use Rattle.std.proofs.lemmas.List.{map-append, replicate-append-replicate}
use Rattle.ft_modread.specs.Layout.{filled_up}

map_zeros : (n : ℕ) → map (cast_signed w8) (replicate n 0) ≡ replicate n (pos 0)
map_zeros zero = refl
map_zeros (suc n) = ap (λ (xs : List ℤ). pos 0 ∷ xs) (map_zeros n)

pub padded_frames : (n k : ℕ) (bytes : List ℕ) → n ≡ k
    → map (cast_signed w8) bytes ++ replicate (k - length bytes) (pos 0) ≡ map (cast_signed w8) (filled_up n bytes)
padded_frames n k bytes same =
    ap (λ (m : ℕ). map (cast_signed w8) bytes ++ replicate (m - length bytes) (pos 0)) (sym same)
    ∙ ap (λ (xs : List ℤ). map (cast_signed w8) bytes ++ xs) (sym (map_zeros (n - length bytes)))
    ∙ sym (map-append (cast_signed w8) bytes (replicate (n - length bytes) 0))

-- one more frame of 0
pub one_more_zero : (front : List ℤ) (k n : ℕ) → n ≤ k
    → (front ++ replicate (k - n) (pos 0)) ++ pos 0 ∷ [] ≡ front ++ replicate (k + 1 - n) (pos 0)
one_more_zero front k n le =
    let next : k - n + 1 ≡ k + 1 - n = omega (arith, le) in
    append_assoc front (replicate (k - n) (pos 0)) (pos 0 ∷ [])
    ∙ ap (λ (xs : List ℤ). front ++ xs) (replicate-append-replicate (k - n) 1 (pos 0)
    ∙ ap (λ (m : ℕ). replicate m (pos 0)) next)
