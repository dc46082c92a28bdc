-- The roots of parts as lists.
use Rattle.std.proofs.Common.{◌≡◌, ℕ, zero, suc, ◌+◌, ◌-◌, ◌<◌, ◌≤◌, List, [], ◌∷◌, length, take, map, refl, ap, sym, ◌∙◌, arith}
use Rattle.std.proofs.lemmas.List.{length-map, take-map}
use Rattle.ft_edits.specs.Lists.{without_last}
use Rattle.ft_changes.specs.Parts.{put}

pub map_put : {X Y : Type 0} (f : X → Y) (k : ℕ) (x : X) (xs : List X) → map f (put k x xs) ≡ put k (f x) (map f xs)
map_put f zero x [] = refl
map_put f zero x (y ∷ xs) = refl
map_put f (suc k) x [] = refl
map_put f (suc k) x (y ∷ xs) = ap (λ zs. f y ∷ zs) (map_put f k x xs)

pub map_last : {X Y : Type 0} (f : X → Y) (xs : List X) → map f (without_last xs) ≡ without_last (map f xs)
map_last f xs =
    sym (take-map f (length xs - 1) xs) ∙ ap (λ n. take (n - 1) (map f xs)) (sym (length-map xs f))

pub no_last : {X : Type 0} (xs : List X) → length xs ≡ 0 → without_last xs ≡ xs
no_last [] none = refl
no_last (x ∷ xs) none = absurd (omega (arith, none))

pub put_length : {X : Type 0} (k : ℕ) (x : X) (xs : List X) → k ≤ length xs → k < length (put k x xs)
put_length zero x [] le = omega arith
put_length zero x (y ∷ xs) le = omega arith
put_length (suc k) x [] le = absurd (omega (arith, le))
put_length (suc k) x (y ∷ xs) le = omega (arith, put_length k x xs (omega (arith, le)))

pub put_long : {X : Type 0} (k : ℕ) (x : X) (xs : List X) → k ≡ length xs → length (put k x xs) ≡ length xs + 1
put_long zero x [] is = refl
put_long zero x (y ∷ xs) is = absurd (omega (arith, is))
put_long (suc k) x [] is = absurd (omega (arith, is))
put_long (suc k) x (y ∷ xs) is = omega (arith, put_long k x xs (omega (arith, is)))

pub put_same : {X : Type 0} (k : ℕ) (x : X) (xs : List X) → k < length xs → length (put k x xs) ≡ length xs
put_same zero x [] lt = absurd (omega (arith, lt))
put_same zero x (y ∷ xs) lt = refl
put_same (suc k) x [] lt = absurd (omega (arith, lt))
put_same (suc k) x (y ∷ xs) lt = omega (arith, put_same k x xs (omega (arith, lt)))

pub few_left : {X : Type 0} (xs : List X) → length xs ≤ 1 → without_last xs ≡ []
few_left [] le = refl
few_left (x ∷ []) le = refl
few_left (x ∷ y ∷ xs) le = absurd (omega (arith, le))
