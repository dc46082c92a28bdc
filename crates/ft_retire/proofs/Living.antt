-- Laws of the marks of what lives at a version.
use Rattle.std.proofs.Common.{◌≡◌, ◌<◌, ◌⊎◌, ◌↔◌, inl, inr, ◌||◌, ℕ, zero, suc, Bool, true, false, List, [], ◌∷◌, length, get_or, refl, ap, arith}
use Rattle.ft_retire.specs.declared.life.Life.{Life}
use Rattle.ft_retire.specs.Lives.{lives_at}
use Rattle.ft_retire.specs.Marks.{keep_living}

pub living_many : (version : ℕ) (lives : List Life) (marks : List Bool)
    → length (keep_living version lives marks) ≡ length marks
living_many version [] marks = refl
living_many version (life ∷ lives) [] = refl
living_many version (life ∷ lives) (mark ∷ marks) = ap suc (living_many version lives marks)

-- the mark of one segment
pub living_at : (version : ℕ) (lives : List Life) (marks : List Bool) (k : ℕ) (l : Life) (d : Bool)
    → length lives ≡ length marks → k < length marks
    → get_or (keep_living version lives marks) k d
    ≡ (get_or marks k d || lives_at (get_or lives k l) version)
living_at version [] [] k l d e lt = absurd (omega arith)
living_at version [] (mark ∷ marks) k l d e lt = absurd (omega arith)
living_at version (life ∷ lives) [] k l d e lt = absurd (omega arith)
living_at version (life ∷ lives) (mark ∷ marks) zero l d e lt = refl
living_at version (life ∷ lives) (mark ∷ marks) (suc k) l d e lt =
    living_at version lives marks k l d (omega arith) (omega arith)

pub or_true : (a b : Bool) → (a || b) ≡ true ↔ ((a ≡ true) ⊎ (b ≡ true))
or_true true b = ((λ e. inl refl), λ either. refl)
or_true false true = ((λ e. inr refl), λ either. refl)
or_true false false = ((λ e. absurd cc), λ either. elim either [ inl e ↦ e | inr e ↦ e ])
