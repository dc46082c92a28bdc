-- The laws of the identification: which bytes pass, and where others are refused.
use Rattle.std.proofs.Common.{◌≡◌, ℕ, zero, suc, ◌+◌, ◌<◌, ◌≤◌, Bool, true, false, cond, List, refl, sym, ap, subst, arith, Option, Some, None, inl, inr}
use Rattle.std.proofs.lemmas.Bool.{cases_lt}
use Rattle.ft_xmread.specs.Identification.{stands, wrong_from}

-- from k on the first of n that differs
pub record FirstFrom (file : List ℕ) (k n at : ℕ) : Type 0 where
  pub low : k ≤ at
  pub high : at < k + n
  pub wrong : stands file at ≡ false
  pub before : (j : ℕ) → k ≤ j → j < at → stands file j ≡ true

abbrev pub AllFrom : List ℕ → ℕ → ℕ → Type 0
AllFrom file k n = (j : ℕ) → k ≤ j → j < k + n → stands file j ≡ true

abbrev some : ℕ → Option ℕ
some k = Some k

some_is : (a b : ℕ) → some a ≡ some b → a ≡ b
some_is a b e = cc

next_from : (file : List ℕ) (k n at : ℕ) → stands file k ≡ true → FirstFrom file (suc k) n at
    → FirstFrom file k (suc n) at
next_from file k n at e f = record {
  low = omega (arith, f.low);
  high = omega (arith, f.high);
  wrong = f.wrong;
  before = λ j le lt. elim (cases_lt k j) [
    | inl more ↦ f.before j (omega arith) lt
    | inr less ↦ let same : k ≡ j = omega arith in subst (λ (i : ℕ). stands file i ≡ true) same e
  ];
}

first_step : (file : List ℕ) (k n at : ℕ) (b : Bool) → stands file k ≡ b
    → cond b (wrong_from (suc k) n file) (some k) ≡ some at
    → (wrong_from (suc k) n file ≡ some at → FirstFrom file (suc k) n at) → FirstFrom file k (suc n) at
first_step file k n at true e h more = next_from file k n at e (more h)
first_step file k n at false e h more =
    let same : k ≡ at = some_is k at h in
    record {
      low = omega (arith, same);
      high = omega (arith, same);
      wrong = subst (λ (i : ℕ). stands file i ≡ false) same e;
      before = λ j le lt. absurd (omega (arith, same));
    }

pub first_is : (file : List ℕ) (k n at : ℕ) → wrong_from k n file ≡ some at → FirstFrom file k n at
unfolding wrong_from
first_is file k zero at h = absurd cc
first_is file k (suc n) at h = first_step file k n at (stands file k) refl h (first_is file (suc k) n at)

all_step : (file : List ℕ) (k n : ℕ) (b : Bool) → stands file k ≡ b → cond b (wrong_from (suc k) n file) (some k) ≡ None
    → (wrong_from (suc k) n file ≡ None → AllFrom file (suc k) n) → AllFrom file k (suc n)
all_step file k n true e h more = λ j le lt. elim (cases_lt k j) [
  | inl above ↦ more h j (omega arith) (omega arith)
  | inr less ↦ let same : k ≡ j = omega arith in subst (λ (i : ℕ). stands file i ≡ true) same e
]
all_step file k n false e h more = absurd cc

pub all_are : (file : List ℕ) (k n : ℕ) → wrong_from k n file ≡ None → AllFrom file k n
unfolding wrong_from
all_are file k zero h = λ j le lt. absurd (omega arith)
all_are file k (suc n) h = all_step file k n (stands file k) refl h (all_are file (suc k) n)

pub is_first : (file : List ℕ) (k n at : ℕ) → FirstFrom file k n at → wrong_from k n file ≡ some at
unfolding wrong_from
is_first file k zero at f = absurd (omega (arith, f.low, f.high))
is_first file k (suc n) at f =
    elim (cases_lt k at) [
      | inl below ↦ rw (f.before k (omega arith) below) (is_first file (suc k) n at (record {
        low = omega arith;
        high = omega (arith, f.high);
        wrong = f.wrong;
        before = λ j le lt. f.before j (omega arith) lt;
      }))
      | inr less ↦ let same : at
          ≡ k = omega (arith, f.low) in rw (subst (λ (i : ℕ). stands file i ≡ false) same f.wrong) (ap some (sym same))
    ]
