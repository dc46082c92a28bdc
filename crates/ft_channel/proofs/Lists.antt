-- One place of a list, set once or twice.
use Rattle.std.proofs.Common.{◌≡◌, ℕ, ◌<◌, List, length, get_or, set, ap, sym, ◌∙◌}
use Rattle.std.proofs.lemmas.List.{set-set, get_or-set_same}

pub set_once : {X : Type 0} (xs ys : List X) (c : ℕ) (x d : X) → c < length xs → ys ≡ set xs c x
    → (get_or ys c d ≡ x) × (ys ≡ set xs c (get_or ys c d))
set_once {X = X} xs ys c x d lt e =
    let same : get_or ys c d ≡ x = ap (λ (l : List X). get_or l c d) e ∙ get_or-set_same xs c x d lt in
    (same, e ∙ ap (set xs c) (sym same))

pub set_twice : {X : Type 0} (xs ys zs : List X) (c : ℕ) (x y : X) → ys ≡ set xs c x → zs ≡ set ys c y → zs ≡ set xs c y
set_twice {X = X} xs ys zs c x y e f = f ∙ ap (λ (l : List X). set l c y) e ∙ set-set xs c x y
