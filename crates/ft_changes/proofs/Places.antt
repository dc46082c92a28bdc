-- Elements put at a place, and elements of lists that were cut and joined.
use Rattle.std.proofs.Common.{◌≡◌, ℕ, zero, suc, ◌+◌, ◌-◌, ◌<◌, ◌≤◌, List, [], ◌∷◌, ◌++◌, None, Some, length, take, drop, refl, ap, ◌∙◌, arith}
use Rattle.std.specs.Prelude.{slice_get, get_or}
use Rattle.std.proofs.lemmas.List.{get_or-take, get_or-drop, get_or_append_left, get_or-append_right, length-take, length-drop, length-append, take-append-drop}
use Rattle.ft_edits.specs.Lists.{changed_at, stretch_of, with_stretch}
use Rattle.ft_changes.specs.Parts.{put}

pub stored : {X : Type 0} (xs : List X) (k : ℕ) → k < length xs → (x : X) × (slice_get xs k ≡ Some x)
stored [] k lt = absurd (omega (arith, lt))
stored (x ∷ xs) zero lt = (x, refl)
stored (x ∷ xs) (suc k) lt = stored xs k (omega (arith, lt))

pub below : {X : Type 0} (xs : List X) (k : ℕ) (x : X) → slice_get xs k ≡ Some x → k < length xs
below [] k x found = absurd cc
below (y ∷ xs) zero x found = omega arith
below (y ∷ xs) (suc k) x found = omega (arith, below xs k x found)

pub changed_is_put : {X : Type 0} (xs : List X) (k : ℕ) (change : X → X) (x : X) → slice_get xs k ≡ Some x
    → changed_at k change xs ≡ put k (change x) xs
changed_is_put [] k change x found = absurd cc
changed_is_put (y ∷ xs) zero change x found = let e : y ≡ x = cc in ap (λ z. change z ∷ xs) e
changed_is_put (y ∷ xs) (suc k) change x found = ap (λ zs. y ∷ zs) (changed_is_put xs k change x found)

pub pushed_is_put : {X : Type 0} (xs : List X) (x : X) → xs ++ x ∷ [] ≡ put (length xs) x xs
pushed_is_put [] x = refl
pushed_is_put (y ∷ xs) x = ap (λ zs. y ∷ zs) (pushed_is_put xs x)

pub none_there : {X : Type 0} (xs : List X) → slice_get xs (length xs) ≡ None
none_there [] = refl
none_there (x ∷ xs) = none_there xs

-- ---- lists of frames

-- below the cut nothing changes
pub before_cut : {X : Type 0} (xs ys : List X) (from k : ℕ) (d : X) → k < from → from ≤ length xs
    → get_or (take from xs ++ ys) k d ≡ get_or xs k d
before_cut xs ys from k d lt le =
    let n : k < length (take from xs) = omega (arith, length-take from xs, lt, le) in
    get_or_append_left (take from xs) ys d k n ∙ get_or-take from xs k d lt

-- behind a stretch that stays as long nothing changes
pub behind_stretch : {X : Type 0} (xs mid : List X) (from to k : ℕ) (d : X) → from ≤ to → to ≤ length xs → to ≤ k
    → from + length mid ≡ to → get_or (take from xs ++ (mid ++ drop to xs)) k d ≡ get_or xs k d
behind_stretch xs mid from to k d low high le same =
    let a : length (take from xs) ≡ from = omega (arith, length-take from xs, low, high) in
    let b = get_or-append_right (take from xs) (mid ++ drop to xs) from k d a (omega (arith, low, le)) in
    let c = get_or-append_right mid (drop to xs) (length mid) (k - from) d refl (omega (arith, le, same)) in
    let e = get_or-drop to xs (k - from - length mid) d in
    let n : to + (k - from - length mid) ≡ k = omega (arith, le, same) in
    b ∙ c ∙ e ∙ ap (λ n. get_or xs n d) n

pub stretch_length : {X : Type 0} (xs mid : List X) (from to : ℕ) → from ≤ to → to ≤ length xs → from + length mid ≡ to
    → length (take from xs ++ (mid ++ drop to xs)) ≡ length xs
stretch_length xs mid from to low high same =
    let a = length-append (take from xs) (mid ++ drop to xs) in
    let b = length-append mid (drop to xs) in
    let c = length-take from xs in
    let d = length-drop to xs in
    omega (arith, a, b, c, d, low, high, same)

-- an empty stretch
pub no_stretch : {X : Type 0} (xs : List X) (change : List X → List X) (from : ℕ) → change [] ≡ []
    → with_stretch from from change xs ≡ xs
no_stretch xs change from none =
    let z : from - from ≡ 0 = omega arith in
    let e : stretch_of from from xs ≡ [] = ap (λ n. take n (drop from xs)) z in
    ap (λ mid. take from xs ++ (mid ++ drop from xs)) (ap change e ∙ none) ∙ take-append-drop from xs
