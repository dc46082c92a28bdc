-- Lists by their places.
use Rattle.std.proofs.Common.{◌≡◌, ℕ, zero, suc, ◌+◌, ◌<◌, ◌≤◌, List, [], ◌∷◌, ◌++◌, None, Some, get_or, length, map, refl, sym, ap, ◌∙◌, arith}
use Rattle.std.specs.List.{range_with_len, slice_get, sum_by}
use Rattle.std.proofs.lemmas.List.Sums.{get_or-le-sum_by}
use Rattle.std.specs.Prelude.{option_map}
use Rattle.std.proofs.lemmas.Option.{slice_get_within, get_or_from_slice_get, slice_get-map, none-some, same_Some}
use Rattle.std.proofs.lemmas.List.FromFn.{length-map-range_with_len, get_or-map-range_with_len}
use Rattle.ft_segments.specs.Walk.{each_below}

-- what is at a place of a list
pub stored : {X : Type 0} (xs : List X) (k : ℕ) → k < length xs → (x : X) × (slice_get xs k ≡ Some x)
stored [] k lt = absurd (omega arith)
stored (x ∷ xs) zero lt = (x, refl)
stored (x ∷ xs) (suc k) lt = stored xs k (omega arith)

-- a part of a sum
pub part_of_sum : {X : Type 0} (f : X → ℕ) (xs : List X) (k : ℕ) (x : X) → slice_get xs k ≡ Some x → f x ≤ sum_by f xs
part_of_sum f xs k x is =
    let e : f (get_or xs k x) ≡ f x = ap f (get_or_from_slice_get xs k x x is) in
    let part = get_or-le-sum_by f xs k x (slice_get_within xs k x is) in
    omega arith

-- what a function gives of each number below another
pub below_at : {X : Type 0} → (n : ℕ) (f : ℕ → X) (k : ℕ) → k < n → slice_get (each_below n f) k ≡ Some (f k)
below_at {X = X} n f k lt =
    let within : k < length (map f (range_with_len 0 n)) = omega (arith, length-map-range_with_len f 0 n) in
    let one = stored (map f (range_with_len 0 n)) k within in
    one.1 ∙ ap (λ (x : X). Some x)
    (sym (get_or_from_slice_get (map f (range_with_len 0 n)) k one.0 one.0 one.1)
    ∙ get_or-map-range_with_len f 0 n k k one.0 lt (omega arith))

pub length_below : {X : Type 0} → (n : ℕ) (f : ℕ → X) → length (each_below n f) ≡ n
length_below n f = length-map-range_with_len f 0 n

-- ---- roots by their places

pub root_there : {X : Type 0} (root : X → ℕ) (xs : List X) (k : ℕ) (x : X) → slice_get xs k ≡ Some x
    → slice_get (map root xs) k ≡ Some (root x)
root_there root xs k x is = slice_get-map root xs k ∙ ap (option_map root) is

pub root_absent : {X : Type 0} (root : X → ℕ) (xs : List X) (k : ℕ) → slice_get xs k ≡ None → slice_get (map root xs) k ≡ None
root_absent root xs k is = slice_get-map root xs k ∙ ap (option_map root) is

pub of_root : {X : Type 0} (root : X → ℕ) (xs : List X) (k r : ℕ) → slice_get (map root xs) k ≡ Some r
    → (x : X) × (slice_get xs k ≡ Some x) × (root x ≡ r)
of_root root [] k r is = absurd (none-some r is)
of_root root (x ∷ xs) zero r is = (x, refl, same_Some (root x) r is)
of_root root (x ∷ xs) (suc k) r is = of_root root xs k r is

pub of_no_root : {X : Type 0} (root : X → ℕ) (xs : List X) (k : ℕ) → slice_get (map root xs) k ≡ None → slice_get xs k ≡ None
of_no_root root [] k is = refl
of_no_root root (x ∷ xs) zero is = absurd (none-some (root x) (sym is))
of_no_root root (x ∷ xs) (suc k) is = of_no_root root xs k is

-- what is made from ids is made from its root
pub made_of_root : {X : Type 0} (root : X → ℕ) (make : ℕ → X) (id : ℕ → ℕ) (n k : ℕ) (x : X) → ((r : ℕ) → root (make r) ≡ r)
    → slice_get (each_below n (λ i. make (id i))) k ≡ Some x → x ≡ make (root x)
made_of_root root make id n k x roots is =
    let within = slice_get_within (each_below n (λ i. make (id i))) k x is in
    let lt : k < n = omega (arith, within, length_below n (λ i. make (id i))) in
    let e : make (id k) ≡ x = same_Some (make (id k)) x (sym (below_at n (λ i. make (id i)) k lt) ∙ is) in
    let r : id k ≡ root x = sym (roots (id k)) ∙ ap root e in
    sym e ∙ ap make r

-- ---- what isn't there, and what is in two lists

pub absent : {X : Type 0} (xs : List X) (k : ℕ) → slice_get xs k ≡ None → length xs ≤ k
absent [] k is = omega arith
absent (x ∷ xs) zero is = absurd (none-some x (sym is))
absent (x ∷ xs) (suc k) is = let more = absent xs k is in omega (arith, more)

pub in_first : {X : Type 0} (xs ys : List X) (k : ℕ) → k < length xs → slice_get (xs ++ ys) k ≡ slice_get xs k
in_first [] ys k lt = absurd (omega (arith, lt))
in_first (x ∷ xs) ys zero lt = refl
in_first (x ∷ xs) ys (suc k) lt = in_first xs ys k (omega (arith, lt))

pub in_second : {X : Type 0} (xs ys : List X) (n k : ℕ) → k ≡ length xs + n → slice_get (xs ++ ys) k ≡ slice_get ys n
in_second [] ys n k is = let e : k ≡ n = omega (arith, is) in ap (slice_get ys) e
in_second (x ∷ xs) ys n zero is = absurd (omega (arith, is))
in_second (x ∷ xs) ys n (suc k) is = in_second xs ys n k (omega (arith, is))
