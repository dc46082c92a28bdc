-- Lists whose elements are related one by one: one of them another, or the last gone.
use Rattle.std.proofs.Common.{◌≡◌, ℕ, zero, suc, ◌-◌, ◌<◌, ◌≤◌, List, [], ◌∷◌, Some, length, take, refl, sym, subst, arith}
use Rattle.std.specs.Prelude.{slice_get}
use Rattle.std.proofs.lemmas.Option.{same_Some, none-some, slice_get_within}
use Rattle.ft_edits.specs.Lists.{without_last}
use Rattle.ft_changes.specs.Parts.{put}
use Rattle.ft_image.specs.Shown.{Pairwise}

pub stored : {X : Type 0} (xs : List X) (k : ℕ) → k < length xs → (x : X) × (slice_get xs k ≡ Some x)
stored [] k lt = absurd (omega (arith, lt))
stored (x ∷ xs) zero lt = (x, refl)
stored (x ∷ xs) (suc k) lt = stored xs k (omega (arith, lt))

-- ---- an element put at a place

pub put_there : {X : Type 0} (xs : List X) (k : ℕ) (x : X) → k ≤ length xs → slice_get (put k x xs) k ≡ Some x
put_there [] zero x le = refl
put_there [] (suc k) x le = absurd (omega (arith, le))
put_there (y ∷ xs) zero x le = refl
put_there (y ∷ xs) (suc k) x le = put_there xs k x (omega (arith, le))

-- ---- lists of pairs

pub none_paired : {A B : Type 0} (R : A → B → Type 0) → Pairwise R [] []
none_paired R = record { count = refl; each = λ k x y is at. absurd (none-some x is) }

pub head_of : {A B : Type 0} (R : A → B → Type 0) (x : A) (xs : List A) (y : B) (ys : List B)
    → Pairwise R (x ∷ xs) (y ∷ ys) → R x y
head_of R x xs y ys pairs = pairs.each 0 x y refl refl

pub rest_of : {A B : Type 0} (R : A → B → Type 0) (x : A) (xs : List A) (y : B) (ys : List B)
    → Pairwise R (x ∷ xs) (y ∷ ys) → Pairwise R xs ys
rest_of R x xs y ys pairs = record {
  count = omega (arith, pairs.count);
  each = λ k a b is at. pairs.each (suc k) a b is at;
}

each_more : {A B : Type 0} (R : A → B → Type 0) (x : A) (xs : List A) (y : B) (ys : List B) → R x y → Pairwise R xs ys
    → (k : ℕ) (a : A) (b : B) → slice_get (x ∷ xs) k ≡ Some a → slice_get (y ∷ ys) k ≡ Some b → R a b
each_more R x xs y ys one pairs zero a b is at =
    subst (λ z. R a z) (same_Some y b at) (subst (λ z. R z y) (same_Some x a is) one)
each_more R x xs y ys one pairs (suc k) a b is at = pairs.each k a b is at

pub one_more : {A B : Type 0} (R : A → B → Type 0) (x : A) (xs : List A) (y : B) (ys : List B)
    → R x y → Pairwise R xs ys → Pairwise R (x ∷ xs) (y ∷ ys)
one_more R x xs y ys one pairs = record {
  count = omega (arith, pairs.count);
  each = each_more R x xs y ys one pairs;
}

pub put_paired : {A B : Type 0} (R : A → B → Type 0) (xs : List A) (ys : List B) (k : ℕ) (x : A) (y : B)
    → Pairwise R xs ys → k ≤ length xs → R x y → Pairwise R (put k x xs) (put k y ys)
put_paired R [] [] zero x y pairs le one = one_more R x [] y [] one (none_paired R)
put_paired R [] [] (suc k) x y pairs le one = absurd (omega (arith, le))
put_paired R [] (b ∷ ys) k x y pairs le one = absurd (omega (arith, pairs.count))
put_paired R (a ∷ xs) [] k x y pairs le one = absurd (omega (arith, pairs.count))
put_paired R (a ∷ xs) (b ∷ ys) zero x y pairs le one = one_more R x xs y ys one (rest_of R a xs b ys pairs)
put_paired R (a ∷ xs) (b ∷ ys) (suc k) x y pairs le one =
    one_more R a (put k x xs) b (put k y ys) (head_of R a xs b ys pairs)
    (put_paired R xs ys k x y (rest_of R a xs b ys pairs) (omega (arith, le)) one)

take_paired : {A B : Type 0} (R : A → B → Type 0) (n : ℕ) (xs : List A) (ys : List B)
    → Pairwise R xs ys → Pairwise R (take n xs) (take n ys)
take_paired R zero xs ys pairs = none_paired R
take_paired R (suc n) [] [] pairs = none_paired R
take_paired R (suc n) [] (b ∷ ys) pairs = absurd (omega (arith, pairs.count))
take_paired R (suc n) (a ∷ xs) [] pairs = absurd (omega (arith, pairs.count))
take_paired R (suc n) (a ∷ xs) (b ∷ ys) pairs =
    one_more R a (take n xs) b (take n ys) (head_of R a xs b ys pairs) (take_paired R n xs ys (rest_of R a xs b ys pairs))

pub last_gone : {A B : Type 0} (R : A → B → Type 0) (xs : List A) (ys : List B)
    → Pairwise R xs ys → Pairwise R (without_last xs) (without_last ys)
last_gone R xs ys pairs =
    subst (λ n. Pairwise R (without_last xs) (take (n - 1) ys)) (sym pairs.count) (take_paired R (length xs - 1) xs ys pairs)

-- what is at the place of an element, and what isn't where there is none
pub paired_with : {A B : Type 0} (R : A → B → Type 0) (xs : List A) (ys : List B) (k : ℕ) (x : A)
    → Pairwise R xs ys → slice_get xs k ≡ Some x → (y : B) × (slice_get ys k ≡ Some y) × R x y
paired_with R xs ys k x pairs is =
    let lt = slice_get_within xs k x is in
    let one = stored ys k (omega (arith, pairs.count, lt)) in
    (one.0, one.1, pairs.each k x one.0 is one.1)
