-- One more item of a list is written.
use Rattle.std.proofs.Common.{◌≢◌, ℕ, ◌<◌, ◌+◌, List, length, get_or, set, below_more, get_or-set_other, get_or-set_same, subst, sym, arith}

pub more : {A : Type 0} (P : ℕ → A → Type 0) (xs : List A) (i : ℕ) (x d : A) → i < length xs
    → ((j : ℕ) → j < i → P j (get_or xs j d)) → P i x → (j : ℕ) → j < i + 1 → P j (get_or (set xs i x) j d)
more P xs i x d lt before here =
    below_more (λ (j : ℕ). P j (get_or (set xs i x) j d)) i
    (λ j less. let ne : j ≢ i = omega arith in rw get_or-set_other (before j less))
    (subst (P i) (sym (get_or-set_same xs i x d lt)) here)
