-- Parts that are laid one after the other: one more part, and what stays.
use Rattle.std.proofs.Common.{◌≡◌, ℕ, zero, suc, ◌+◌, ◌<◌, ◌≤◌, List, [], ◌∷◌, ◌++◌, Some, map, take, get_or, length, sym, ap, subst, ◌∙◌, arith, inl, inr}
use Rattle.std.specs.List.{slice_get, sum_by}
use Rattle.std.proofs.lemmas.Bool.{cases_lt}
use Rattle.std.proofs.lemmas.List.{take_more, map-append, length-append}
use Rattle.std.proofs.lemmas.List.Sums.{sum_by-cons, sum_by_more, sum_by-take-le}
use Rattle.std.proofs.lemmas.Option.{none-some, same_Some}
use Rattle.ft_image.specs.Shown.{Pairwise}
use Rattle.ft_image.specs.Laid.{Keeps, laid}

-- ---- pairs

inside : {X : Type 0} → (xs : List X) (x y : X) (k : ℕ) → slice_get (xs ++ x ∷ []) k ≡ Some y → k < length xs → slice_get xs k ≡ Some y
inside [] x y k is lt = absurd (omega arith)
inside (a ∷ xs) x y zero is lt = is
inside (a ∷ xs) x y (suc k) is lt = inside xs x y k is (omega arith)

last_one : {X : Type 0} → (xs : List X) (x y : X) (k : ℕ) → slice_get (xs ++ x ∷ []) k ≡ Some y → length xs ≤ k → x ≡ y
last_one [] x y zero is le = same_Some x y is
last_one [] x y (suc k) is le = absurd (none-some y is)
last_one (a ∷ xs) x y zero is le = absurd (omega arith)
last_one (a ∷ xs) x y (suc k) is le = last_one xs x y k is (omega arith)

pub pairwise_push : {X Y : Type 0} → (Related : X → Y → Type 0) (xs : List X) (ys : List Y) (x : X) (y : Y)
    → Pairwise Related xs ys → Related x y → Pairwise Related (xs ++ x ∷ []) (ys ++ y ∷ [])
pairwise_push {X = X} {Y = Y} Related xs ys x y pairs one = record {
  count = omega (arith, length-append xs (x ∷ []), length-append ys (y ∷ []), pairs.count);
  each = λ k a b at bt. elim (cases_lt k (length xs)) [
    | inl lt ↦ pairs.each k a b (inside xs x a k at lt) (inside ys y b k bt (omega (arith, pairs.count)))
    | inr le ↦
        let e : x ≡ a = last_one xs x a k at le in
        let f : y ≡ b = last_one ys y b k bt (omega (arith, pairs.count)) in
        subst (λ (z : X). Related z b) e (subst (λ (z : Y). Related x z) f one)
  ];
}

-- ---- parts laid

laid_push : {X Y : Type 0} → (size : X → ℕ) (ids : ℕ → X → Y) (n : ℕ) (xs : List X) (x : X)
    → laid size ids n (xs ++ x ∷ []) ≡ laid size ids n xs ++ ids (n + sum_by size xs) x ∷ []
laid_push {Y = Y} size ids n [] x = let e : n ≡ n + 0 = omega arith in ap (λ (k : ℕ). ids k x ∷ []) e
laid_push {Y = Y} size ids n (a ∷ xs) x =
    let c = sum_by-cons size a xs in
    let e : n + size a + sum_by size xs ≡ n + sum_by size (a ∷ xs) = omega arith in
    ap (λ (ys : List Y). ids n a ∷ ys)
    (laid_push size ids (n + size a) xs x ∙ ap (λ (k : ℕ). laid size ids (n + size a) xs ++ ids k x ∷ []) e)

-- one more of the first k
pub laid_more : {X Y : Type 0} → (size : X → ℕ) (ids : ℕ → X → Y) (n : ℕ) (xs : List X) (k : ℕ) (x : X) → k < length xs
    → x ≡ get_or xs k x
    → laid size ids n (take (k + 1) xs) ≡ laid size ids n (take k xs) ++ ids (n + sum_by size (take k xs)) x ∷ []
laid_more {X = X} size ids n xs k x lt is =
    ap (λ (l : List X). laid size ids n l) (take_more xs k x lt ∙ ap (λ (a : X). take k xs ++ a ∷ []) (sym is))
    ∙ laid_push size ids n (take k xs) x

pub end_more : {X : Type 0} → (size : X → ℕ) (xs : List X) (k : ℕ) (x : X) → k < length xs → x ≡ get_or xs k x
    → sum_by size (take (k + 1) xs) ≡ sum_by size (take k xs) + size x
end_more {X = X} size xs k x lt is =
    sum_by_more size xs k x lt ∙ ap (λ (a : X). sum_by size (take k xs) + size a) (sym is)

pub end_within : {X : Type 0} → (size : X → ℕ) (xs : List X) (k : ℕ) (x : X) → k < length xs → x ≡ get_or xs k x
    → sum_by size (take k xs) + size x ≤ sum_by size xs
end_within size xs k x lt is =
    let a = end_more size xs k x lt is in
    let b = sum_by-take-le size xs (k + 1) in
    omega arith

pub roots_more : {X Y : Type 0} → (size : X → ℕ) (ids : ℕ → X → Y) (root : Y → ℕ) (n : ℕ) (xs : List X) (k : ℕ) (x : X) → k < length xs
    → x ≡ get_or xs k x
    → map root (laid size ids n (take (k + 1) xs))
    ≡ map root (laid size ids n (take k xs)) ++ root (ids (n + sum_by size (take k xs)) x) ∷ []
roots_more {Y = Y} size ids root n xs k x lt is =
    ap (λ (l : List Y). map root l) (laid_more size ids n xs k x lt is)
    ∙ map-append root (laid size ids n (take k xs)) (ids (n + sum_by size (take k xs)) x ∷ [])

-- where a part is laid
laid_at : {X Y : Type 0} → (size : X → ℕ) (ids : ℕ → X → Y) (n : ℕ) (xs : List X) (k : ℕ) (x : X) (y : Y)
    → slice_get xs k ≡ Some x → slice_get (laid size ids n xs) k ≡ Some y
    → (a : ℕ) × (y ≡ ids a x) × (n ≤ a) × (a + size x ≤ n + sum_by size xs)
laid_at size ids n [] k x y is at = absurd (none-some x is)
laid_at {Y = Y} size ids n (a ∷ xs) zero x y is at =
    let e = same_Some a x is in
    let c = sum_by-cons size a xs in
    let s : size a ≡ size x = ap size e in
    (n, sym (same_Some (ids n a) y at) ∙ ap (ids n) e, omega arith, omega arith)
laid_at size ids n (a ∷ xs) (suc k) x y is at =
    let r = laid_at size ids (n + size a) xs k x y is at in
    let c = sum_by-cons size a xs in
    (r.0, r.1, omega (arith, r.2), omega (arith, r.3))

-- parts are shown by other words that are the same on their segments
pub laid_stays : {X Y : Type 0} → (size : X → ℕ) (ids : ℕ → X → Y) (Show : List ℕ → X → Y → Type 0)
    → ((old new : List ℕ) (n : ℕ) (x : X) → Keeps n (n + size x) old new → Show old x (ids n x) → Show new x (ids n x))
    → (old new : List ℕ) (n : ℕ) (xs : List X) → Keeps n (n + sum_by size xs) old new
    → Pairwise (Show old) xs (laid size ids n xs) → Pairwise (Show new) xs (laid size ids n xs)
laid_stays {Y = Y} size ids Show stays old new n xs keeps pairs = record {
  count = pairs.count;
  each = λ k x y is at.
      let r = laid_at size ids n xs k x y is at in
      subst (λ (z : Y). Show new x z) (sym r.1)
      (stays old new r.0 x (λ s j low high lt. keeps s j (omega (arith, r.2)) (omega (arith, r.3)) lt)
      (subst (λ (z : Y). Show old x z) r.1 (pairs.each k x y is at)));
}

pub shown_more : {X Y : Type 0} → (size : X → ℕ) (ids : ℕ → X → Y) (Show : List ℕ → X → Y → Type 0)
    → ((old new : List ℕ) (n : ℕ) (x : X) → Keeps n (n + size x) old new → Show old x (ids n x) → Show new x (ids n x))
    → (old new : List ℕ) (n : ℕ) (xs : List X) (k : ℕ) (x : X) → k < length xs → x ≡ get_or xs k x
    → Keeps 0 (n + sum_by size (take k xs)) old new
    → Pairwise (Show old) (take k xs) (laid size ids n (take k xs))
    → Show new x (ids (n + sum_by size (take k xs)) x)
    → Pairwise (Show new) (take (k + 1) xs) (laid size ids n (take (k + 1) xs))
shown_more {X = X} {Y = Y} size ids Show stays old new n xs k x lt is keeps pairs one =
    let before = laid_stays size ids Show stays old new n (take k xs) (λ s j low high l. keeps s j (omega arith) high l) pairs in
    let all = pairwise_push (Show new) (take k xs) (laid size ids n (take k xs)) x (ids (n + sum_by size (take k xs)) x) before one in
    let first : take k xs ++ x ∷ [] ≡ take (k + 1) xs
    = sym (take_more xs k x lt ∙ ap (λ (a : X). take k xs ++ a ∷ []) (sym is)) in
    subst (λ (ys : List Y). Pairwise (Show new) (take (k + 1) xs) ys) (sym (laid_more size ids n xs k x lt is))
    (subst (λ (l : List X). Pairwise (Show new) l (laid size ids n (take k xs) ++ ids (n + sum_by size (take k xs)) x ∷ [])) first all)
