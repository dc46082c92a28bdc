-- Drawing values one after the other, as a loop does.
use Rattle.std.proofs.Common.{◌≡◌, ℕ, zero, suc, ◌-◌, ◌+◌, ◌≤◌, ◌<◌, List, [], ◌∷◌, ◌++◌, refl, sym, ap, ◌∙◌, append_assoc, arith}
use Rattle.std.proofs.lemmas.List.{append-nil}
use Rattle.std.specs.List.{range_with_len}
use Rattle.ft_xmwrite.specs.Generate.{drawn}

-- what was drawn, and what is still drawn from a state, are all
pub record IsFront {A : Type 0} (one : ℕ → A × ℕ) (all : List A × ℕ) (front : List A) (left state : ℕ) : Type 0 where
  pub values : front ++ (drawn left one state).0 ≡ all.0
  pub behind : (drawn left one state).1 ≡ all.1

pub goes_on : {A : Type 0} (one : ℕ → A × ℕ) (all : List A × ℕ) (front : List A) (count i state : ℕ) (value : A)
    (after : ℕ) → i < count → value ≡ (one state).0 → after ≡ (one state).1
    → IsFront one all front (count - i) state → IsFront one all (front ++ value ∷ []) (count - (i + 1)) after
unfolding drawn
goes_on {A = A} one all front count i state value after lt e f so_far =
    let k : count - i ≡ suc (count - (i + 1)) = omega arith in
    let so_far = rw k at so_far in
    rw (e, f) (record { values = append_assoc front ((one state).0 ∷ []) _ ∙ so_far.values; behind = so_far.behind })

pub is_done : {A : Type 0} (one : ℕ → A × ℕ) (all : List A × ℕ) (front : List A) (count i state : ℕ) → count ≤ i
    → IsFront one all front (count - i) state → (front ≡ all.0) × (state ≡ all.1)
unfolding drawn
is_done one all front count i state le so_far =
    let k : count - i ≡ 0 = omega arith in
    let so_far = rw k at so_far in
    (sym (append-nil front) ∙ so_far.values, so_far.behind)

-- one number more
pub range_more : (a n b : ℕ) → a + n ≡ b → range_with_len a (n + 1) ≡ range_with_len a n ++ b ∷ []
range_more a zero b e = let k : a ≡ b = omega arith in rw k refl
range_more a (suc n) b e =
    let next : suc n + 1 ≡ suc (n + 1) = omega arith in
    rw next (ap (λ (l : List ℕ). a ∷ l) (range_more (a + 1) n b (omega arith)))
