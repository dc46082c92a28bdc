-- Lists by their places.
use Rattle.std.proofs.Common.{◌≡◌, ℕ, zero, suc, ◌<◌, ◌≤◌, List, [], ◌∷◌, Some, get_or, length, map, refl, sym, ap, ◌∙◌, arith}
use Rattle.std.specs.List.{range_with_len, slice_get, sum_by}
use Rattle.std.proofs.lemmas.List.Sums.{get_or-le-sum_by}
use Rattle.std.proofs.lemmas.Option.{slice_get_within, get_or_from_slice_get}
use Rattle.std.proofs.lemmas.List.FromFn.{length-map-range_with_len, get_or-map-range_with_len}
use Rattle.ft_segments.specs.Walk.{each_below}

-- what is at a place of a list
pub stored : {X : Type 0} (xs : List X) (k : ℕ) → k < length xs
    → (x : X) × (slice_get xs k ≡ Some x)
stored [] k lt = absurd (omega arith)
stored (x ∷ xs) zero lt = (x, refl)
stored (x ∷ xs) (suc k) lt = stored xs k (omega arith)

-- a part of a sum
pub part_of_sum : {X : Type 0} (f : X → ℕ) (xs : List X) (k : ℕ) (x : X) → slice_get xs k ≡ Some x
    → f x ≤ sum_by f xs
part_of_sum f xs k x is =
    let e : f (get_or xs k x) ≡ f x = ap f (get_or_from_slice_get xs k x x is) in
    let part = get_or-le-sum_by f xs k x (slice_get_within xs k x is) in
    omega arith

-- what a function gives of each number below another
pub below_at : {X : Type 0} → (n : ℕ) (f : ℕ → X) (k : ℕ) → k < n
    → slice_get (each_below n f) k ≡ Some (f k)
below_at {X = X} n f k lt =
    let within : k < length (map f (range_with_len 0 n)) = omega (arith, length-map-range_with_len f 0 n) in
    let one = stored (map f (range_with_len 0 n)) k within in
    one.1 ∙ ap (λ (x : X). Some x)
    (sym (get_or_from_slice_get (map f (range_with_len 0 n)) k one.0 one.0 one.1)
    ∙ get_or-map-range_with_len f 0 n k k one.0 lt (omega arith))
