-- What is at a place of a list of which a stretch goes, turns or changes, or into which new ones come.
use Rattle.std.proofs.Common.{◌≡◌, ◌∙◌, ℕ, ◌+◌, ◌-◌, ◌<◌, ◌≤◌, List, ◌++◌, length, take, drop, map, get_or, ap, arith}
use Rattle.std.proofs.lemmas.List.{get_or_append_left, get_or-append_right, get_or-take, get_or-drop, get_or-map, length-take-le, length-drop, length-append, length-map}
use Rattle.ft_edits.specs.Lists.{stretch_of, with_stretch}

-- before a place that is there, what follows it makes no difference
pub kept_before : {X : Type 0} (xs ys : List X) (at i : ℕ) (d : X) → at ≤ length xs → i < at
    → get_or (take at xs ++ ys) i d ≡ get_or xs i d
kept_before xs ys at i d le lt =
    get_or_append_left (take at xs) ys d i (omega (arith, lt, length-take-le at xs le)) ∙ get_or-take at xs i d lt

-- from it on, what follows it counts
pub after_it : {X : Type 0} (xs ys : List X) (at i : ℕ) (d : X) → at ≤ length xs → at ≤ i
    → get_or (take at xs ++ ys) i d ≡ get_or ys (i - at) d
after_it xs ys at i d le ge = get_or-append_right (take at xs) ys at i d (length-take-le at xs le) ge

pub cut_length : {X : Type 0} (xs : List X) (from to : ℕ) → from ≤ to → to ≤ length xs
    → length (take from xs ++ drop to xs) ≡ length xs - (to - from)
cut_length xs from to up le =
    let a = length-append (take from xs) (drop to xs) in
    let b = length-take-le from xs (omega (arith, up, le)) in
    let e = length-drop to xs in
    omega (arith, a, b, e, up, le)

pub paste_length : {X : Type 0} (xs new : List X) (at : ℕ) → at ≤ length xs
    → length (take at xs ++ (new ++ drop at xs)) ≡ length xs + length new
paste_length xs new at le =
    let a = length-append (take at xs) (new ++ drop at xs) in
    let b = length-append new (drop at xs) in
    let t = length-take-le at xs le in
    let e = length-drop at xs in
    omega (arith, a, b, t, e, le)

-- ---- stretches

stretch_length : {X : Type 0} (xs : List X) (from to : ℕ) → from ≤ to → to ≤ length xs
    → length (stretch_of from to xs) ≡ to - from
stretch_length xs from to up le =
    let a = length-drop from xs in
    let b = length-take-le (to - from) (drop from xs) (omega (arith, a, up, le)) in
    omega (arith, b)

stretch_at : {X : Type 0} (xs : List X) (from to k : ℕ) (d : X) → k < to - from
    → get_or (stretch_of from to xs) k d ≡ get_or xs (from + k) d
stretch_at xs from to k d lt = get_or-take (to - from) (drop from xs) k d lt ∙ get_or-drop from xs k d

stretch_inside : {X : Type 0} (xs : List X) (change : List X → List X) (from to i : ℕ) (d : X) → from ≤ to → to ≤ length xs
    → length (change (stretch_of from to xs)) ≡ length (stretch_of from to xs) → from ≤ i → i < to
    → get_or (with_stretch from to change xs) i d ≡ get_or (change (stretch_of from to xs)) (i - from) d
stretch_inside xs change from to i d up le same ge lt =
    let n = stretch_length xs from to up le in
    after_it xs (change (stretch_of from to xs) ++ drop to xs) from i d (omega (arith, up, le)) ge
    ∙ get_or_append_left (change (stretch_of from to xs)) (drop to xs) d (i - from) (omega (arith, same, n, ge, lt))

pub mapped_inside : {X : Type 0} (xs : List X) (f : X → X) (from to i : ℕ) (d : X) → from ≤ to → to ≤ length xs → from ≤ i → i < to
    → get_or (with_stretch from to (map f) xs) i d ≡ f (get_or xs i d)
mapped_inside xs f from to i d up le ge lt =
    let n = stretch_length xs from to up le in
    stretch_inside xs (map f) from to i d up le (length-map (stretch_of from to xs) f) ge lt
    ∙ get_or-map f (stretch_of from to xs) (i - from) d d (omega (arith, n, ge, lt))
    ∙ ap f (stretch_at xs from to (i - from) d (omega (arith, ge, lt)) ∙ ap (λ k. get_or xs k d) (omega (arith, ge)))

pub stretched_length : {X : Type 0} (xs : List X) (change : List X → List X) (from to : ℕ) → from ≤ to → to ≤ length xs
    → length (change (stretch_of from to xs)) ≡ length (stretch_of from to xs)
    → length (with_stretch from to change xs) ≡ length xs
stretched_length xs change from to up le same =
    let n = stretch_length xs from to up le in
    let a = length-append (take from xs) (change (stretch_of from to xs) ++ drop to xs) in
    let b = length-append (change (stretch_of from to xs)) (drop to xs) in
    let t = length-take-le from xs (omega (arith, up, le)) in
    let e = length-drop to xs in
    omega (arith, n, a, b, t, e, same, up, le)
