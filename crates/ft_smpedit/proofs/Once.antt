-- Lists that name each segment at most once.
use Rattle.std.proofs.Common.{◌≡◌, ◌∙◌, ◌≢◌, ℕ, zero, suc, ◌+◌, ◌<◌, ◌≤◌, List, [], ◌∷◌, length, get_or, refl, ap, sym, arith, eq-eqb, inl, inr}
use Rattle.std.proofs.lemmas.List.Sums.{get_or-le-sum_by, sum_by-cons}
use Rattle.std.proofs.lemmas.Bool.{cases_lt}
use Rattle.ft_segments.specs.Walk.{is_it}
use Rattle.ft_changes.specs.Laws.{named_in}

is_itself : (s : ℕ) → is_it s s ≡ 1
is_itself s = rw (eq-eqb s s refl) refl

two_is_more : (a b n : ℕ) → a ≡ 1 → b ≡ 1 → b ≤ n → a + n ≤ 1 → ⊥
two_is_more a b n a_is b_is le all = omega (arith, a_is, b_is, le, all)

in_order : (xs : List ℕ) (i j : ℕ) → ((s : ℕ) → named_in s xs ≤ 1) → i < j → j < length xs → get_or xs i 0 ≢ get_or xs j 0
in_order [] i j once lt within same = omega (arith, within)
in_order (x ∷ xs) i zero once lt within same = omega (arith, lt)
in_order (x ∷ xs) zero (suc j) once lt within same =
    let s = get_or xs j 0 in
    let one : is_it s s ≤ named_in s xs = get_or-le-sum_by (is_it s) xs j 0 (omega (arith, within)) in
    let it : is_it s x ≡ 1 = ap (is_it s) same ∙ is_itself s in
    let more = sum_by-cons (is_it s) x xs in
    let all : is_it s x + named_in s xs ≤ 1 = omega (arith, once s, more) in
    two_is_more (is_it s x) (is_it s s) (named_in s xs) it (is_itself s) one all
in_order (x ∷ xs) (suc i) (suc j) once lt within same =
    in_order xs i j (λ s. omega (arith, once s, sum_by-cons (is_it s) x xs)) (omega (arith, lt)) (omega (arith, within)) same

pub places_differ : (xs : List ℕ) (i j : ℕ) → ((s : ℕ) → named_in s xs ≤ 1) → i < length xs → j < length xs → i ≢ j
    → get_or xs i 0 ≢ get_or xs j 0
places_differ xs i j once i_in j_in ne = elim (cases_lt i j) [
  | inl lt ↦ in_order xs i j once lt j_in
  | inr ge ↦ λ same. in_order xs j i once (omega (arith, ge, ne)) i_in (sym same)
]
