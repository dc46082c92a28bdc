-- Lists that one item was added to.
use Rattle.std.proofs.Common.{◌≡◌, List, [], ◌∷◌, ◌++◌, sym, subst, ◌⊎◌}
use Rattle.std.specs.List.{Contains}
use Rattle.std.proofs.lemmas.List.Elements.{Contains-append_left, Contains-push, Contains-push_cases}

module _ {A : Type 0} (old new : List A) (x : A) (is : new ≡ old ++ x ∷ []) where
  pub kept : (y : A) → Contains old y → Contains new y
  kept y c = subst (λ (l : List A). Contains l y) (sym is) (Contains-append_left old (x ∷ []) y c)

  pub newest : Contains new x
  newest = subst (λ (l : List A). Contains l x) (sym is) (Contains-push old x)

  pub either : (y : A) → Contains new y → Contains old y ⊎ (x ≡ y)
  either y c = Contains-push_cases old x y (subst (λ (l : List A). Contains l y) is c)
