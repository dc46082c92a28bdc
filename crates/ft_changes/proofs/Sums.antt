-- Sums over lists in which one element, a stretch or the last is another.
use Rattle.std.proofs.Common.{◌≡◌, ℕ, zero, suc, ◌+◌, ◌-◌, ◌*◌, ◌≤◌, List, [], ◌∷◌, ◌++◌, None, Some, length, take, drop, map, refl, ap, ◌∙◌, arith}
use Rattle.std.specs.Prelude.{slice_get}
use Rattle.std.specs.List.{flat_map, sum_by}
use Rattle.std.proofs.lemmas.List.Sums.{sum_by-cons, sum_by-append, sum_by-take-drop}
use Rattle.std.proofs.lemmas.List.{drop-drop, length-drop}
use Rattle.ft_edits.specs.Lists.{stretch_of, with_stretch, without_last}
use Rattle.ft_segments.specs.Walk.{PatternIds, IndexIds, SampleIds, InstrumentIds, is_it, pattern_uses, index_uses, sample_uses, instrument_uses}
use Rattle.ft_changes.specs.Parts.{put, pattern_segments, index_roots, body_ids, sample_segments, instrument_segments, segments_if, grouped}
use Rattle.ft_changes.specs.Laws.{named_in}

-- one element becomes another
pub put_part : {X : Type 0} (f : X → ℕ) (xs : List X) (k : ℕ) (x y : X) (a b : ℕ)
    → slice_get xs k ≡ Some x → f y + a ≡ f x + b
    → sum_by f (put k y xs) + a ≡ sum_by f xs + b
put_part f [] k x y a b found same = absurd cc
put_part f (z ∷ xs) zero x y a b found same =
    let e : z ≡ x = cc in
    let p = sum_by-cons f y xs in
    let q = sum_by-cons f z xs in
    let r : f z ≡ f x = ap f e in
    omega (arith, p, q, r, same)
put_part f (z ∷ xs) (suc k) x y a b found same =
    let more = put_part f xs k x y a b found same in
    let p = sum_by-cons f z (put k y xs) in
    let q = sum_by-cons f z xs in
    omega (arith, more, p, q)

-- one element becomes another, or a new one comes last
pub put_whole : {X : Type 0} (f : X → ℕ) (g : X → List ℕ) (s : ℕ)
    → ((x : X) → named_in s (g x) ≡ f x) → (xs : List X) (k : ℕ) (y : X) → k ≤ length xs
    → sum_by f (put k y xs) + named_in s (segments_if g (slice_get xs k)) ≡ sum_by f xs + f y
put_whole f g s each [] zero y le = omega (arith, sum_by-cons f y [])
put_whole f g s each [] (suc k) y le = absurd (omega (arith, le))
put_whole f g s each (z ∷ xs) zero y le =
    let p = sum_by-cons f y xs in
    let q = sum_by-cons f z xs in
    let r = each z in
    omega (arith, p, q, r)
put_whole f g s each (z ∷ xs) (suc k) y le =
    let more = put_whole f g s each xs k y (omega (arith, le)) in
    let p = sum_by-cons f z (put k y xs) in
    let q = sum_by-cons f z xs in
    omega (arith, more, p, q)

-- one element becomes another that counts c more than what goes, or a new one that counts c comes last
pub put_if : {X : Type 0} (f : X → ℕ) (g : X → List ℕ) (s : ℕ) (xs : List X) (k : ℕ) (y : X) (c : ℕ) → k ≤ length xs
    → (slice_get xs k ≡ None → f y ≡ c)
    → ((x : X) → slice_get xs k ≡ Some x → f y + named_in s (g x) ≡ f x + c)
    → sum_by f (put k y xs) + named_in s (segments_if g (slice_get xs k)) ≡ sum_by f xs + c
put_if f g s [] zero y c le none some = let n = none refl in omega (arith, sum_by-cons f y [], n)
put_if f g s [] (suc k) y c le none some = absurd (omega (arith, le))
put_if f g s (z ∷ xs) zero y c le none some =
    let p = sum_by-cons f y xs in
    let q = sum_by-cons f z xs in
    let r = some z refl in
    omega (arith, p, q, r)
put_if f g s (z ∷ xs) (suc k) y c le none some =
    let more = put_if f g s xs k y c (omega (arith, le)) none some in
    let p = sum_by-cons f z (put k y xs) in
    let q = sum_by-cons f z xs in
    omega (arith, more, p, q)

-- what goes was a part of the sum
pub if_le : {X : Type 0} (f : X → ℕ) (g : X → List ℕ) (s : ℕ) (xs : List X) (k : ℕ)
    → ((x : X) → slice_get xs k ≡ Some x → named_in s (g x) ≤ f x)
    → named_in s (segments_if g (slice_get xs k)) ≤ sum_by f xs
if_le f g s [] k each = omega arith
if_le f g s (z ∷ xs) zero each = let r = each z refl in omega (arith, r, sum_by-cons f z xs)
if_le f g s (z ∷ xs) (suc k) each = let r = if_le f g s xs k each in omega (arith, r, sum_by-cons f z xs)

-- the last one goes
pub last_whole : {X : Type 0} (f : X → ℕ) (g : X → List ℕ) (s : ℕ)
    → ((x : X) → named_in s (g x) ≡ f x) → (xs : List X)
    → sum_by f (without_last xs) + named_in s (segments_if g (slice_get xs (length xs - 1))) ≡ sum_by f xs
last_whole f g s each [] = refl
last_whole f g s each (z ∷ []) = let r = each z in let q = sum_by-cons f z [] in omega (arith, r, q)
last_whole {X = X} f g s each (z ∷ y ∷ xs) =
    let more = last_whole f g s each (y ∷ xs) in
    let rest : List X = z ∷ y ∷ xs in
    let n : length rest - 1 ≡ suc (length (y ∷ xs) - 1) = omega arith in
    let t : without_last rest ≡ z ∷ without_last (y ∷ xs) = ap (λ n. take n rest) n in
    let u : slice_get rest (length rest - 1) ≡ slice_get (y ∷ xs) (length (y ∷ xs) - 1) = ap (slice_get rest) n in
    let v : sum_by f (without_last rest) ≡ sum_by f (z ∷ without_last (y ∷ xs)) = ap (sum_by f) t in
    let w : named_in s (segments_if g (slice_get rest (length rest - 1)))
    ≡ named_in s (segments_if g (slice_get (y ∷ xs) (length (y ∷ xs) - 1))) = ap (λ o. named_in s (segments_if g o)) u in
    let p = sum_by-cons f z (without_last (y ∷ xs)) in
    let q = sum_by-cons f z (y ∷ xs) in
    omega (arith, more, p, q, v, w)

-- a stretch becomes another list
pub stretch_part : {X : Type 0} (f : X → ℕ) (xs new : List X) (from to : ℕ) → from ≤ to
    → sum_by f (with_stretch from to (λ old. new) xs) + sum_by f (stretch_of from to xs)
    ≡ sum_by f xs + sum_by f new
stretch_part f xs new from to le =
    let a = sum_by-append f (take from xs) (new ++ drop to xs) in
    let b = sum_by-append f new (drop to xs) in
    let c = sum_by-take-drop f xs from in
    let d = sum_by-take-drop f (drop from xs) (to - from) in
    let n : from + (to - from) ≡ to = omega (arith, le) in
    let e : sum_by f (drop (to - from) (drop from xs)) ≡ sum_by f (drop to xs) =
    ap (sum_by f) (drop-drop (to - from) from xs ∙ ap (λ n. drop n xs) n) in
    omega (arith, a, b, c, d, e)

-- ---- the segments of parts, added up

pub of_pattern : (s : ℕ) (x : PatternIds) → named_in s (pattern_segments x) ≡ pattern_uses s x
of_pattern s x = sum_by-cons (is_it s) x.root x.bodies

pub of_indexes : (s : ℕ) (xs : List IndexIds)
    → sum_by (index_uses s) xs
    ≡ named_in s (map (λ (x : IndexIds). x.root) xs) + named_in s (flat_map (λ (x : IndexIds). x.bodies) xs)
of_indexes s [] = refl
of_indexes s (x ∷ xs) =
    let more = of_indexes s xs in
    let a = sum_by-cons (index_uses s) x xs in
    let b = sum_by-cons (is_it s) x.root (map (λ (x : IndexIds). x.root) xs) in
    let c = sum_by-append (is_it s) x.bodies (flat_map (λ (x : IndexIds). x.bodies) xs) in
    omega (arith, more, a, b, c)

pub of_sample : (s : ℕ) (x : SampleIds) → named_in s (sample_segments x) ≡ sample_uses s x
of_sample s x =
    let a = of_indexes s x.indexes in
    let b = sum_by-cons (is_it s) x.root (index_roots x ++ body_ids x) in
    let c = sum_by-append (is_it s) (index_roots x) (body_ids x) in
    omega (arith, a, b, c)

of_samples : (s : ℕ) (xs : List SampleIds) → named_in s (flat_map sample_segments xs) ≡ sum_by (sample_uses s) xs
of_samples s [] = refl
of_samples s (x ∷ xs) =
    let more = of_samples s xs in
    let a = of_sample s x in
    let b = sum_by-cons (sample_uses s) x xs in
    let c = sum_by-append (is_it s) (sample_segments x) (flat_map sample_segments xs) in
    omega (arith, more, a, b, c)

pub of_instrument : (s : ℕ) (x : InstrumentIds) → named_in s (instrument_segments x) ≡ instrument_uses s x
of_instrument s x =
    let a = of_samples s x.samples in
    let b = sum_by-cons (is_it s) x.root (flat_map sample_segments x.samples) in
    omega (arith, a, b)

-- bodies given to indexes, where there are enough
pub of_grouped : (s : ℕ) (roots bodies : List ℕ) → length bodies ≤ 1024 * length roots
    → sum_by (index_uses s) (grouped roots bodies) ≡ named_in s roots + named_in s bodies
of_grouped s [] [] le = refl
of_grouped s [] (b ∷ bodies) le = absurd (omega (arith, le))
of_grouped s (root ∷ roots) bodies le =
    let fewer : length (drop 1024 bodies) ≤ 1024 * length roots = omega (arith, le, length-drop 1024 bodies) in
    let more = of_grouped s roots (drop 1024 bodies) fewer in
    let x : IndexIds = record { root = root; bodies = take 1024 bodies } in
    let a = sum_by-cons (index_uses s) x (grouped roots (drop 1024 bodies)) in
    let b = sum_by-cons (is_it s) root roots in
    let c = sum_by-take-drop (is_it s) bodies 1024 in
    omega (arith, more, a, b, c)
