-- Frames in a word.
use Rattle.std.proofs.Common.{◌≡◌, ℕ, ◌+◌, ◌-◌, ◌*◌, ◌≤◌, List, [], ◌∷◌, ◌++◌, length, get_or, take, drop, Option, Some, None, ℤ, refl, ap, ◌∙◌, append_assoc, arith}
use Rattle.std.specs.Int.{w16, cast_signed}
use Rattle.std.proofs.lemmas.List.{take_rest}
use Rattle.ft_lines.specs.Values.{frame_before, doubles}

-- frames in front of others, where there are any
abbrev pub in_front : List ℤ → Option (List ℤ) → Option (List ℤ)
in_front front None = None
in_front front (Some frames) = Some (front ++ frames)

moved : (front : List ℤ) (x : ℤ) (o : Option (List ℤ)) → in_front (front ++ x ∷ []) o ≡ in_front front (frame_before x o)
moved front x None = refl
moved front x (Some frames) = ap Some (append_assoc front (x ∷ []) frames)

-- the next two bytes are a frame more
pub next_frame : (front : List ℤ) (rest : List ℕ) (x : ℤ) (whole : Option (List ℤ)) → 2 ≤ length rest
    → x ≡ cast_signed w16 (get_or rest 0 0 * 256 + get_or rest 1 0) → in_front front (doubles rest) ≡ whole
    → in_front (front ++ x ∷ []) (doubles (take (length rest - 2) (drop 2 rest))) ≡ whole
next_frame front [] x whole long is so_far = absurd (omega arith)
next_frame front (a ∷ []) x whole long is so_far = absurd (omega arith)
next_frame front (high ∷ low ∷ rest) x whole long is so_far =
    ap (λ r. in_front (front ++ x ∷ []) (doubles r)) (take_rest (high ∷ low ∷ rest) 2)
    ∙ (moved front x (doubles rest) ∙ (ap (λ y. in_front front (frame_before y (doubles rest))) is ∙ so_far))
