-- Marks on the segments of a pool, in their order.
use Rattle.std.specs.Prelude.{◌≡◌, ◌<◌, ◌+◌, ◌||◌, ℕ, Bool, true, false, List, [], ◌∷◌, Option, None, Some, length, get_or}
use Rattle.ft_retire.specs.declared.life.Life.{Life}
use Rattle.ft_retire.specs.Lives.{lives_at}

-- how many have no mark
abbrev pub unmarked_in : List Bool → ℕ
unmarked_in [] = 0
unmarked_in (true ∷ marks) = unmarked_in marks
unmarked_in (false ∷ marks) = unmarked_in marks + 1

-- each one below a number is marked
abbrev pub AreMarked : ℕ → List Bool → Type 0
AreMarked bound marks = (segment : ℕ) → segment < bound → get_or marks segment true ≡ true

-- a segment that has no mark, where each one below it has
pub record IsLeastUnmarked (marks : List Bool) (segment : ℕ) : Type 0 where
  pub within : segment < length marks
  pub unmarked : get_or marks segment true ≡ false
  pub below : AreMarked segment marks

-- how many marks are looked at, one after the other, until a segment is found: those up to its own,
-- or all where none is found
abbrev pub looked_at : List Bool → Option ℕ → ℕ
looked_at marks None = length marks
looked_at marks (Some segment) = segment + 1

-- The marks where each segment that lives at the version is marked beside those that were
abbrev pub keep_living : ℕ → List Life → List Bool → List Bool
keep_living version [] marks = marks
keep_living version (life ∷ lives) [] = []
keep_living version (life ∷ lives) (mark ∷ marks) =
    (mark || lives_at life version) ∷ keep_living version lives marks
