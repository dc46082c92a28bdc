-- The nearest note of a period.
use Rattle.std.proofs.Common.{◌≡◌, ℕ, zero, suc, ◌+◌, ◌<◌, ◌≤◌, Bool, true, false, cond, refl, sym, ap, subst, ◌∙◌, ◌-◌, arith, inl, inr}
use Rattle.std.specs.Prelude.{nat_lt}
use Rattle.std.proofs.lemmas.Bool.{cases_lt}
use Rattle.std.proofs.lemmas.Bool.Decides.{nat_tests}
use Rattle.ft_modread.specs.Notes.{off_by, nearer, nearest_of, IsNearest}

-- k is the first of the notes up to n whose period is nearest
record IsNearestUpTo (n period k : ℕ) : Type 0 where
  within : k ≤ n
  least : (j : ℕ) → j ≤ n → off_by period k ≤ off_by period j
  first : (j : ℕ) → j < k → off_by period k < off_by period j

le_numbers : (a b c : ℕ) → a < b → b ≤ c → a ≤ c
le_numbers a b c lt le = omega arith

lt_numbers : (a b c : ℕ) → a < b → b ≤ c → a < c
lt_numbers a b c lt le = omega arith

same_le : (a : ℕ) → a ≤ a
same_le a = omega arith

le_by : (period a b c : ℕ) → off_by period a < off_by period b → off_by period b ≤ off_by period c
    → off_by period a ≤ off_by period c
le_by period a b c lt le = le_numbers (off_by period a) (off_by period b) (off_by period c) lt le

lt_by : (period a b c : ℕ) → off_by period a < off_by period b → off_by period b ≤ off_by period c
    → off_by period a < off_by period c
lt_by period a b c lt le = lt_numbers (off_by period a) (off_by period b) (off_by period c) lt le

keeps : (n period k : ℕ) → off_by period k ≤ off_by period (suc n) → IsNearestUpTo n period k
    → IsNearestUpTo (suc n) period k
keeps n period k le up = record {
  within = omega (arith, up.within);
  least = λ j low. elim (cases_lt j (suc n)) [
    | inl below ↦ up.least j (omega arith)
    | inr above ↦ let same : suc n ≡ j = omega arith in subst (λ (i : ℕ). off_by period k ≤ off_by period i) same le
  ];
  first = up.first;
}

takes : (n period k : ℕ) → off_by period (suc n) < off_by period k → IsNearestUpTo n period k
    → IsNearestUpTo (suc n) period (suc n)
takes n period k lt up = record {
  within = omega arith;
  least = λ j low. elim (cases_lt j (suc n)) [
    | inl below ↦ let far : off_by period k ≤ off_by period j = up.least j (omega arith) in le_by period (suc n) k j lt far
    | inr above ↦ let same : suc n ≡ j = omega arith in subst (λ (i : ℕ). off_by period (suc n) ≤ off_by period i) same (same_le (off_by period (suc n)))
  ];
  first = λ j below. let far : off_by period k ≤ off_by period j = up.least j (omega arith) in lt_by period (suc n) k j lt far;
}

step : (n period k : ℕ) (b : Bool) → nat_lt (off_by period (suc n)) (off_by period k) ≡ b → IsNearestUpTo n period k
    → IsNearestUpTo (suc n) period (cond b (suc n) k)
step n period k true e up = takes n period k (grind (arith, nat_tests)) up
step n period k false e up = keeps n period k (grind (arith, nat_tests)) up

up_to : (period n : ℕ) → IsNearestUpTo n period (nearest_of period n)
unfolding nearest_of
up_to period zero = record {
  within = omega arith;
  least = λ j low. let same : zero ≡ j = omega arith in subst (λ (i : ℕ). off_by period 0 ≤ off_by period i) same (same_le (off_by period 0));
  first = λ j below. absurd (omega arith);
}
up_to period (suc n) = step n period (nearest_of period n) (nat_lt (off_by period (suc n)) (off_by period (nearest_of period n))) refl (up_to period n)

pub is_nearest : (period : ℕ) → IsNearest period (nearest_of period 35)
is_nearest period =
    let up = up_to period 35 in
    record { within = omega (arith, up.within); least = λ j lt. up.least j (omega arith); first = up.first }

pub nearest_low : (period : ℕ) → nearest_of period 35 ≤ 35
nearest_low period = (up_to period 35).within

-- a step of the loop
pub nearest_more : (period found k : ℕ) → 1 ≤ k → found ≡ nearest_of period (k - 1)
    → nearer period found k ≡ nearest_of period (k + 1 - 1)
unfolding nearest_of
nearest_more period found zero le e = absurd (omega arith)
nearest_more period found (suc m) le e =
    let here : suc m - 1 ≡ m = omega arith in
    let next : suc m + 1 - 1 ≡ suc m = omega arith in
    let same : found ≡ nearest_of period m = e ∙ ap (nearest_of period) here in
    ap (λ (k : ℕ). nearer period k (suc m)) same ∙ sym (ap (nearest_of period) next)

low_step : (b : Bool) (found k : ℕ) → found < k → cond b k found < k + 1
low_step true found k lt = omega arith
low_step false found k lt = omega arith

pub nearer_low : (period found k : ℕ) → found < k → nearer period found k < k + 1
nearer_low period found k lt = low_step (nat_lt (off_by period k) (off_by period found)) found k lt
