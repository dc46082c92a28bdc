-- The frames of a sample as steps, one after the other.
use Rattle.std.proofs.Common.{◌≡◌, ℕ, ◌+◌, ◌-◌, ◌/◌, ◌%◌, ◌<◌, ℤ, pos, List, [], ◌∷◌, ◌++◌, length, get_or, drop, map, sym, ap, ◌∙◌, append_assoc}
use Rattle.std.specs.List.{flat_map}
use Rattle.std.specs.Int.{w8, w16, cast_unsigned}
use Rattle.std.proofs.lemmas.List.{drop_more}
use Rattle.ft_format.specs.Canon.{steps_from}
use Rattle.ft_format.specs.Fields.{two_bytes}

-- the step to this value, and then the others
pub next_narrow : (frames : List ℤ) (i before value : ℕ) (front whole : List ℕ) → i < length frames
    → value ≡ cast_unsigned w8 (get_or frames i (pos 0))
    → front ++ steps_from 256 before (map (cast_unsigned w8) (drop i frames)) ≡ whole
    → (front ++ (value + (256 - before)) % 256 ∷ [])
    ++ steps_from 256 value (map (cast_unsigned w8) (drop (i + 1) frames)) ≡ whole
next_narrow frames i before value front whole lt e so_far =
    append_assoc front ((value + (256 - before)) % 256 ∷ [])
    (steps_from 256 value (map (cast_unsigned w8) (drop (i + 1) frames)))
    ∙ ap (λ (v : ℕ). front ++ steps_from 256 before (v ∷ map (cast_unsigned w8) (drop (i + 1) frames))) e
    ∙ sym
    (ap (λ (l : List ℤ). front ++ steps_from 256 before (map (cast_unsigned w8) l)) (drop_more frames i (pos 0) lt))
    ∙ so_far

-- the two bytes of the step to this value, and then the others
pub next_wide : (frames : List ℤ) (i before value low high : ℕ) (front whole : List ℕ) → i < length frames
    → value ≡ cast_unsigned w16 (get_or frames i (pos 0))
    → low ≡ (value + (65536 - before)) % 65536 % 256 → high ≡ (value + (65536 - before)) % 65536 / 256 % 256
    → front ++ flat_map two_bytes (steps_from 65536 before (map (cast_unsigned w16) (drop i frames))) ≡ whole
    → ((front ++ low ∷ []) ++ high ∷ [])
    ++ flat_map two_bytes (steps_from 65536 value (map (cast_unsigned w16) (drop (i + 1) frames))) ≡ whole
next_wide frames i before value low high front whole lt e e0 e1 so_far =
    let rest = flat_map two_bytes (steps_from 65536 value (map (cast_unsigned w16) (drop (i + 1) frames))) in
    append_assoc (front ++ low ∷ []) (high ∷ []) rest
    ∙ append_assoc front (low ∷ []) (high ∷ rest)
    ∙ ap (λ (b : ℕ). front ++ b ∷ (high ∷ rest)) e0
    ∙ ap (λ (b : ℕ). front ++ (value + (65536 - before)) % 65536 % 256 ∷ (b ∷ rest)) e1
    ∙ ap
    (λ (v : ℕ). front ++ flat_map two_bytes (steps_from 65536 before (v ∷ map (cast_unsigned w16) (drop (i + 1) frames))))
    e
    ∙ sym
    (ap (λ (l : List ℤ). front ++ flat_map two_bytes (steps_from 65536 before (map (cast_unsigned w16) l)))
    (drop_more frames i (pos 0) lt))
    ∙ so_far
