-- Fresh segments, none of which is listed twice.
use Rattle.std.proofs.Common.{◌≡◌, ◌≢◌, ℕ, zero, suc, ◌+◌, ◌<◌, ◌≤◌, List, [], ◌∷◌, length, get_or, ap, sym, arith}
use Rattle.std.proofs.lemmas.List.Sums.{get_or-le-sum_by, sum_by-cons}
use Rattle.ft_segments.specs.Walk.{is_it}
use Rattle.ft_changes.specs.Laws.{named_in}
use Rattle.ft_songedit.proofs.Stored.{itself}

-- a listed segment is named
pub named : (fresh : List ℕ) (i : ℕ) → i < length fresh → 1 ≤ named_in (get_or fresh i 0) fresh
named fresh i lt =
    let one = itself (get_or fresh i 0) in
    let part = get_or-le-sum_by (is_it (get_or fresh i 0)) fresh i 0 lt in
    omega arith

-- one that isn't named is none of them
pub not_named : (fresh : List ℕ) (s i : ℕ) → named_in s fresh ≡ 0 → i < length fresh → s ≢ get_or fresh i 0
not_named fresh s i none lt = λ e.
    let one = named fresh i lt in
    let same : named_in (get_or fresh i 0) fresh ≡ named_in s fresh = ap (λ (n : ℕ). named_in n fresh) (sym e) in
    absurd (omega (arith, one, same, none))

less : (x : ℕ) (xs : List ℕ) (s : ℕ) → ((t : ℕ) → named_in t (x ∷ xs) ≤ 1) → named_in s xs ≤ 1
less x xs s once =
    let sum : named_in s (x ∷ xs) ≡ is_it s x + named_in s xs = sum_by-cons (is_it s) x xs in
    omega (arith, once s, sum)

-- two places have different segments
pub differ : (fresh : List ℕ) (i j : ℕ) → ((s : ℕ) → named_in s fresh ≤ 1) → i < j → j < length fresh
    → get_or fresh i 0 ≢ get_or fresh j 0
differ [] i j once lt within = absurd (omega (arith, within))
differ (x ∷ xs) i zero once lt within = absurd (omega (arith, lt))
differ (x ∷ xs) zero (suc j) once lt within = λ e.
    let first = itself x in
    let one = named xs j (omega (arith, within)) in
    let same : named_in (get_or xs j 0) xs ≡ named_in x xs = ap (λ (n : ℕ). named_in n xs) (sym e) in
    let all = once x in
    let sum : named_in x (x ∷ xs) ≡ is_it x x + named_in x xs = sum_by-cons (is_it x) x xs in
    absurd (omega (arith, first, one, same, all, sum))
differ (x ∷ xs) (suc i) (suc j) once lt within =
    differ xs i j (λ s. less x xs s once) (omega (arith, lt)) (omega (arith, within))
