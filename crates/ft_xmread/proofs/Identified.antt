-- The first byte that differs from the identification.
use Rattle.std.proofs.Common.{◌≡◌, ℕ, suc, ◌+◌, ◌-◌, ◌<◌, ◌≤◌, true, false, List, refl, ap, arith, Some, None}
use Rattle.ft_xmread.specs.Identification.{stands, wrong_from}

pub differs : (file : List ℕ) (k : ℕ) → k < 17 → stands file k ≡ false → wrong_from k (17 - k) file ≡ Some k
unfolding wrong_from
differs file k lt e = let n : 17 - k ≡ suc (17 - (k + 1)) = omega arith in rw (n, e) refl

pub agrees : (file : List ℕ) (k : ℕ) → k < 17 → stands file k ≡ true
    → wrong_from k (17 - k) file ≡ wrong_from (k + 1) (17 - (k + 1)) file
unfolding wrong_from
agrees file k lt e =
    let n : 17 - k ≡ suc (17 - (k + 1)) = omega arith in
    let next : suc k ≡ k + 1 = omega arith in
    rw (n, e) (ap (λ (j : ℕ). wrong_from j (17 - (k + 1)) file) next)

pub all_agree : (file : List ℕ) (k : ℕ) → 17 ≤ k → wrong_from k (17 - k) file ≡ None
unfolding wrong_from
all_agree file k le = let n : 17 - k ≡ 0 = omega arith in rw n refl
