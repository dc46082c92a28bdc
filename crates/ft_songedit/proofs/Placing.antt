-- Lists one element of which is another.
use Rattle.std.proofs.Common.{◌≡◌, ℕ, zero, suc, ◌<◌, ◌≤◌, List, [], ◌∷◌, Some, length, set, get_or, refl, ap, ◌∙◌, arith, inl, inr, ne_eqb, eq-eqb}
use Rattle.std.specs.List.{slice_get}
use Rattle.std.proofs.lemmas.Bool.{cases_eq}
use Rattle.std.proofs.lemmas.Option.{none-some, same_Some}
use Rattle.std.proofs.lemmas.List.{get_or-set_same, get_or-set_other}
use Rattle.ft_edits.specs.Lists.{changed_at}
use Rattle.ft_changes.specs.Parts.{put}
use Rattle.ft_image.specs.Changed.{IsOneChanged}

pub put_there : {X : Type 0} (k : ℕ) (x : X) (xs : List X) → k ≤ length xs → slice_get (put k x xs) k ≡ Some x
put_there zero x [] le = refl
put_there zero x (y ∷ xs) le = refl
put_there (suc k) x [] le = absurd (omega (arith, le))
put_there (suc k) x (y ∷ xs) le = put_there k x xs (omega (arith, le))

pub changed_there : {X : Type 0} (k : ℕ) (f : X → X) (xs : List X) (x : X) → slice_get xs k ≡ Some x
    → slice_get (changed_at k f xs) k ≡ Some (f x)
changed_there k f [] x is = absurd (none-some x is)
changed_there zero f (y ∷ xs) x is = ap (λ z. Some (f z)) (same_Some y x is)
changed_there (suc k) f (y ∷ xs) x is = changed_there k f xs x is

pub set_is_one : (k y : ℕ) (xs : List ℕ) → k < length xs → IsOneChanged k y xs (set xs k y)
set_is_one k y xs lt =
    λ j. elim (cases_eq j k) [
      | inl same ↦ ap (λ n. get_or (set xs k y) n 0) same ∙ get_or-set_same xs k y 0 lt ∙ rw (eq-eqb j k same) refl
      | inr ne ↦ get_or-set_other xs k j y 0 ne ∙ rw (ne_eqb j k ne) refl
    ]
