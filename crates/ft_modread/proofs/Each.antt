-- Lists of what a function says of each number.
use Rattle.std.proofs.Common.{◌≡◌, ℕ, ◌+◌, ◌<◌, List, [], ◌∷◌, ◌++◌, length, get_or, All, refl, sym, ap, ◌∙◌, subst, arith}
use Rattle.std.proofs.lemmas.List.FromFn.{map-range_with_len_more, length-map-range_with_len, get_or-map-range_with_len}
use Rattle.ft_modread.specs.Layout.{each}

pub each_none : {A : Type 0} (f : ℕ → A) → each 0 f ≡ []
unfolding each
each_none f = refl

pub each_more : {A : Type 0} (n : ℕ) (f : ℕ → A) → each (n + 1) f ≡ each n f ++ f n ∷ []
unfolding each
each_more n f = map-range_with_len_more f 0 n n (omega arith)

pub length_each : {A : Type 0} (n : ℕ) (f : ℕ → A) → length (each n f) ≡ n
unfolding each
length_each n f = length-map-range_with_len f 0 n

pub at_each : {A : Type 0} (n : ℕ) (f : ℕ → A) (k : ℕ) (d : A) → k < n → get_or (each n f) k d ≡ f k
unfolding each
at_each n f k d lt = get_or-map-range_with_len f 0 n k k d lt (omega arith)

pub all_each : {A : Type 0} (P : A → Type 0) (n : ℕ) (f : ℕ → A) → ((k : ℕ) → k < n → P (f k)) → All P (each n f)
all_each P n f each_is k d lt =
    let below : k < n = omega (arith, lt, length_each n f) in
    subst P (sym (at_each n f k d below)) (each_is k below)

-- one more at the end of a list
pub pushed : {A : Type 0} (n : ℕ) (f : ℕ → A) (before now : List A) (x : A) → now ≡ before ++ x ∷ [] → before ≡ each n f
    → x ≡ f n → now ≡ each (n + 1) f
pushed {A} n f before now x e b s =
    e ∙ ap (λ (xs : List A). xs ++ x ∷ []) b ∙ ap (λ (y : A). each n f ++ y ∷ []) s ∙ sym (each_more n f)
