-- A vector of a fixed room that is written as a whole.
use Rattle.std.proofs.Common.{◌≡◌, ◌<◌, get_or, ℕ, zero, suc, List, [], ◌∷◌, ◌++◌, length, take, drop, set, refl, ap, sym, arith}
use Rattle.std.specs.List.{refill}
use Rattle.std.proofs.lemmas.List.{length-set}

dropped : {X : Type 0} (xs ws : List X) → length ws ≡ length xs → drop (length ws) xs ≡ []
dropped [] [] e = refl
dropped [] (w ∷ ws) e = refl
dropped (x ∷ xs) [] e = absurd (omega (arith, e))
dropped (x ∷ xs) (w ∷ ws) e = dropped xs ws (omega (arith, e))

whole : {X : Type 0} (ws : List X) → take (length ws) (ws ++ []) ≡ ws
whole [] = refl
whole {X = X} (w ∷ ws) = ap (λ (l : List X). w ∷ l) (whole ws)

-- as many as before are as they were written
pub refilled : {X : Type 0} (xs ws : List X) → length ws ≡ length xs → refill (length xs) xs ws ≡ ws
refilled xs ws e = rw (dropped xs ws e, sym e) (whole ws)

-- one of them is written
pub written : {X : Type 0} (xs ys : List X) (c d : ℕ) (x : X) → ys ≡ xs → c ≡ d
    → refill (length xs) xs (set ys c x) ≡ set xs d x
written xs ys c d x e f = rw (e, f) (refilled xs (set xs d x) (length-set xs d x))

same_at : {X : Type 0} (xs : List X) (i : ℕ) (a b : X) → i < length xs → get_or xs i a ≡ get_or xs i b
same_at [] i a b lt = absurd (omega (arith, lt))
same_at (x ∷ xs) zero a b lt = refl
same_at (x ∷ xs) (suc i) a b lt = same_at xs i a b (omega (arith, lt))

-- one of them is read
pub found : {X : Type 0} (xs ys : List X) (c d : ℕ) (a b : X) → ys ≡ xs → c ≡ d → d < length xs
    → get_or ys c a ≡ get_or xs d b
found xs ys c d a b e f lt = rw (e, f) (same_at xs d a b lt)
