-- A stretch of the bodies of a sample, and of the indexes that name them.
use Rattle.std.proofs.Common.{◌≡◌, ◌⊎◌, ℕ, ◌+◌, ◌-◌, ◌*◌, ◌/◌, ◌≤◌, List, [], ◌∷◌, ◌++◌, length, take, drop, ap, arith, inl, inr}
use Rattle.std.specs.Prelude.{slice_index}
use Rattle.std.specs.List.{sum_by}
use Rattle.std.proofs.lemmas.List.Sums.{sum_by-cons, sum_by-append, sum_by-take-drop}
use Rattle.std.proofs.lemmas.List.{drop_all, drop-drop, length-drop, length-append, length-take, length-map}
use Rattle.ft_types.specs.Blocks.{pieces_of}
use Rattle.ft_edits.specs.Lists.{stretch_of, with_stretch}
use Rattle.ft_segments.specs.Walk.{IndexIds, SampleIds, is_it, index_uses, sample_uses}
use Rattle.ft_changes.specs.Parts.{index_roots, body_ids}
use Rattle.ft_changes.specs.Ids.{index_count, fresh_indexes, fresh_bodies, indexes_after}
use Rattle.ft_changes.specs.Dropped.{root_and_stretch}
use Rattle.ft_changes.specs.Fits.{IsStretch}
use Rattle.ft_changes.specs.Laws.{named_in}
use Rattle.ft_changes.proofs.Sums.{stretch_part, of_indexes, of_grouped}

-- the length of a list in which a stretch is another
pub stretched : {X : Type 0} (xs new : List X) (from to : ℕ) → from ≤ to → to ≤ length xs
    → length (with_stretch from to (λ old. new) xs) + to ≡ length xs + from + length new
stretched xs new from to low high =
    let a = length-append (take from xs) (new ++ drop to xs) in
    let b = length-append new (drop to xs) in
    let c = length-take from xs in
    let d = length-drop to xs in
    omega (arith, a, b, c, d, low, high)

-- the first three of a list, and the rest
pub first_three : (s : ℕ) (fresh : List ℕ) → 3 ≤ length fresh
    → named_in s fresh
    ≡ is_it s (slice_index fresh 0) + is_it s (slice_index fresh 1) + is_it s (slice_index fresh 2) + named_in s (drop 3 fresh)
first_three s [] le = absurd (omega (arith, le))
first_three s (a ∷ []) le = absurd (omega (arith, le))
first_three s (a ∷ b ∷ []) le = absurd (omega (arith, le))
first_three s (a ∷ b ∷ c ∷ rest) le =
    let x = sum_by-cons (is_it s) a (b ∷ c ∷ rest) in
    let y = sum_by-cons (is_it s) b (c ∷ rest) in
    let z = sum_by-cons (is_it s) c rest in
    omega (arith, x, y, z)

pub first_two : (s : ℕ) (fresh : List ℕ) → 2 ≤ length fresh
    → named_in s fresh ≡ is_it s (slice_index fresh 0) + is_it s (slice_index fresh 1) + named_in s (drop 2 fresh)
first_two s [] le = absurd (omega (arith, le))
first_two s (a ∷ []) le = absurd (omega (arith, le))
first_two s (a ∷ b ∷ rest) le =
    let x = sum_by-cons (is_it s) a (b ∷ rest) in
    let y = sum_by-cons (is_it s) b rest in
    omega (arith, x, y)

pub first_one : (s : ℕ) (fresh : List ℕ) → 1 ≤ length fresh
    → named_in s fresh ≡ is_it s (slice_index fresh 0) + named_in s (drop 1 fresh)
first_one s [] le = absurd (omega (arith, le))
first_one s (a ∷ rest) le = sum_by-cons (is_it s) a rest

pub none_left : (s : ℕ) (n : ℕ) (fresh : List ℕ) → length fresh ≡ n → named_in s (drop n fresh) ≡ 0
none_left s n [] is = let e : drop n [] ≡ [] = drop_all n [] (omega arith) in ap (named_in s) e
none_left s n (a ∷ fresh) is = ap (named_in s) (drop_all n (a ∷ fresh) (omega (arith, is)))

-- the numbers of indexes and bodies
pub counted : (first last gone bodies : ℕ) → first ≤ last → first ≤ gone → gone ≤ bodies
    → (first / 1024 ≤ pieces_of gone 1024) × (pieces_of gone 1024 ≤ pieces_of bodies 1024) × (first / 1024 ≤ pieces_of last 1024)
    × (last ≤ 1024 * pieces_of last 1024) × (bodies ≤ 1024 * pieces_of bodies 1024)
counted first last gone bodies a b c = (omega (arith, b), omega (arith, c), omega (arith, a), omega arith, omega arith)

pub enough : (first last gone bodies roots after : ℕ) → (last ≡ gone) ⊎ (gone ≡ bodies) → gone ≤ bodies
    → after + gone ≡ bodies + last → roots + pieces_of gone 1024 ≡ pieces_of bodies 1024 + pieces_of last 1024
    → after ≤ 1024 * roots
enough first last gone bodies roots after (inl same) le a b =
    let e : pieces_of last 1024 ≡ pieces_of gone 1024 = ap (λ n. pieces_of n 1024) same in
    let c : bodies ≤ 1024 * pieces_of bodies 1024 = omega arith in
    omega (arith, same, le, a, b, c, e)
enough first last gone bodies roots after (inr same) le a b =
    let e : pieces_of gone 1024 ≡ pieces_of bodies 1024 = ap (λ n. pieces_of n 1024) same in
    let c : last ≤ 1024 * pieces_of last 1024 = omega arith in
    omega (arith, same, le, a, b, c, e)

-- the fresh ones, cut into indexes and bodies
pub fresh_cut : (first last : ℕ) (fresh : List ℕ) → first ≤ last → length fresh ≡ 3 + index_count first last + (last - first)
    → (length (fresh_indexes first last fresh) ≡ index_count first last) × (length (fresh_bodies first last fresh) ≡ last - first)
fresh_cut first last fresh le is =
    let a = length-take (index_count first last) (drop 3 fresh) in
    let b = length-drop 3 fresh in
    let c = length-drop (3 + index_count first last) fresh in
    (omega (arith, a, b, is), omega (arith, c, is))

pub stretch_balance : (s first last gone : ℕ) (fresh : List ℕ) (q : SampleIds) → IsStretch first last gone q
    → length fresh ≡ 3 + index_count first last + (last - first)
    → is_it s (slice_index fresh 0) + is_it s (slice_index fresh 1) + is_it s (slice_index fresh 2)
    + sum_by (index_uses s) (indexes_after first last gone fresh q.indexes)
    + named_in s (root_and_stretch first gone q)
    ≡ sample_uses s q + named_in s fresh
stretch_balance s first last gone fresh q is count =
    let roots = index_roots q in
    let bodies = body_ids q in
    let many = length-map q.indexes (λ (x : IndexIds). x.root) in
    let n = counted first last gone (length bodies) is.upward is.gone_upward is.within in
    let cut = fresh_cut first last fresh is.upward count in
    let low : pieces_of gone 1024 ≤ length roots = omega (arith, many, is.indexes, n.1) in
    let lr = stretched roots (fresh_indexes first last fresh) (first / 1024) (pieces_of gone 1024) n.0 low in
    let lb = stretched bodies (fresh_bodies first last fresh) first gone is.gone_upward is.within in
    let nb : length (with_stretch first gone (λ old. fresh_bodies first last fresh) bodies) + gone ≡ length bodies + last =
    omega (arith, lb, cut.1, is.upward) in
    let nr : length (with_stretch (first / 1024) (pieces_of gone 1024) (λ old. fresh_indexes first last fresh) roots) + pieces_of gone 1024
    ≡ pieces_of (length bodies) 1024 + pieces_of last 1024 =
    omega (arith, lr, cut.0, is.indexes, many, n.2) in
    let all = enough first last gone (length bodies) _ _ is.all is.within nb nr in
    let g = of_grouped s (with_stretch (first / 1024) (pieces_of gone 1024) (λ old. fresh_indexes first last fresh) roots)
    (with_stretch first gone (λ old. fresh_bodies first last fresh) bodies) all in
    let r = stretch_part (is_it s) roots (fresh_indexes first last fresh) (first / 1024) (pieces_of gone 1024) n.0 in
    let b = stretch_part (is_it s) bodies (fresh_bodies first last fresh) first gone is.gone_upward in
    let o = of_indexes s q.indexes in
    let f = first_three s fresh (omega (arith, count)) in
    let t = sum_by-take-drop (is_it s) (drop 3 fresh) (index_count first last) in
    let u : named_in s (drop (index_count first last) (drop 3 fresh)) ≡ named_in s (fresh_bodies first last fresh) =
    ap (named_in s) (drop-drop (index_count first last) 3 fresh) in
    let d = sum_by-cons (is_it s) q.root (stretch_of (first / 1024) (pieces_of gone 1024) roots ++ stretch_of first gone bodies) in
    let e = sum_by-append (is_it s) (stretch_of (first / 1024) (pieces_of gone 1024) roots) (stretch_of first gone bodies) in
    omega (arith, g, r, b, o, f, t, u, d, e)
