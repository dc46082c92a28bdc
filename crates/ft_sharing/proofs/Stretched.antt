-- Lists in which a stretch is another list: what is before it, behind it, and how many.
use Rattle.std.proofs.Common.{◌≡◌, ℕ, ◌+◌, ◌-◌, ◌<◌, ◌≤◌, List, ◌++◌, length, take, drop, min, get_or, refl, ap, sym, ◌∙◌, arith}
use Rattle.std.proofs.lemmas.List.{get_or-take, get_or-drop, get_or_append_left, get_or-append_right, length-take, length-drop, length-append, ext_get_or}
use Rattle.ft_edits.specs.Lists.{with_stretch}

pub stretched : {X : Type 0} (xs new : List X) (from to : ℕ) → from ≤ to → to ≤ length xs
    → length (with_stretch from to (λ old. new) xs) + to ≡ length xs + from + length new
stretched xs new from to low high =
    let a = length-append (take from xs) (new ++ drop to xs) in
    let b = length-append new (drop to xs) in
    let c = length-take from xs in
    let d = length-drop to xs in
    omega (arith, a, b, c, d, low, high)

-- before the stretch nothing changes
pub before_stretch : {X : Type 0} (xs new : List X) (from to k : ℕ) (d : X) → k < from → from ≤ length xs
    → get_or (with_stretch from to (λ old. new) xs) k d ≡ get_or xs k d
before_stretch xs new from to k d lt le =
    let n : k < length (take from xs) = omega (arith, length-take from xs, lt, le) in
    get_or_append_left (take from xs) (new ++ drop to xs) d k n ∙ get_or-take from xs k d lt

-- behind a stretch that stays as long nothing changes
pub behind_stretch : {X : Type 0} (xs new : List X) (from to k : ℕ) (d : X) → from ≤ to → to ≤ length xs → to ≤ k
    → from + length new ≡ to → get_or (with_stretch from to (λ old. new) xs) k d ≡ get_or xs k d
behind_stretch xs new from to k d low high le same =
    let a : length (take from xs) ≡ from = omega (arith, length-take from xs, low, high) in
    let b = get_or-append_right (take from xs) (new ++ drop to xs) from k d a (omega (arith, low, le)) in
    let c = get_or-append_right new (drop to xs) (length new) (k - from) d refl (omega (arith, le, same)) in
    let e = get_or-drop to xs (k - from - length new) d in
    let n : to + (k - from - length new) ≡ k = omega (arith, le, same) in
    b ∙ c ∙ e ∙ ap (λ n. get_or xs n d) n

-- the stretch itself
pub in_stretch : {X : Type 0} (xs new : List X) (from to k : ℕ) (d : X) → from ≤ length xs → from ≤ k → k < from + length new
    → get_or (with_stretch from to (λ old. new) xs) k d ≡ get_or new (k - from) d
in_stretch xs new from to k d high le lt =
    let a : length (take from xs) ≡ from = omega (arith, length-take from xs, high) in
    get_or-append_right (take from xs) (new ++ drop to xs) from k d a le
    ∙ get_or_append_left new (drop to xs) d (k - from) (omega (arith, le, lt))

-- ---- a piece of a list

pub in_piece : (xs : List ℕ) (from n i : ℕ) → i < n → get_or (take n (drop from xs)) i 0 ≡ get_or xs (from + i) 0
in_piece xs from n i lt = get_or-take n (drop from xs) i 0 lt ∙ get_or-drop from xs i 0

pub length-piece : (xs : List ℕ) (from n : ℕ) → length (take n (drop from xs)) ≡ min n (length xs - from)
length-piece xs from n = let a = length-take n (drop from xs) in let b = length-drop from xs in omega (arith, a, b)

pub same_piece : (xs ys : List ℕ) (from n : ℕ) → min n (length xs - from) ≡ min n (length ys - from)
    → ((i : ℕ) → i < n → get_or xs (from + i) 0 ≡ get_or ys (from + i) 0)
    → take n (drop from xs) ≡ take n (drop from ys)
same_piece xs ys from n many same =
    let a = length-piece xs from n in
    let b = length-piece ys from n in
    ext_get_or 0 (take n (drop from xs)) (take n (drop from ys)) (omega (arith, a, b, many))
    (λ i lt.
    let within : i < n = omega (arith, a, lt) in
    in_piece xs from n i within ∙ same i within ∙ sym (in_piece ys from n i within))
