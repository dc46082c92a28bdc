-- What contracts see of births and deaths.
use Rattle.std.specs.Prelude.{◌≡◌, ◌≤◌, ℕ, Bool, true, List, Option, None, Some, length, get_or, set}
use Rattle.ft_retire.specs.declared.life.Life.{Life}
use Rattle.ft_retire.specs.Lives.{never, born_at}
use Rattle.ft_retire.specs.Marks.{unmarked_in, looked_at, AreMarked}

-- the life of each segment and its mark, in the order of the segments, and how many marks were
-- looked at since they were forgotten
pub record BirthsState : Type 0 where
  pub lives : List Life
  pub marks : List Bool
  pub looked : ℕ

-- what is left where a segment is given, or none
abbrev pub after_give : ℕ → Option ℕ → BirthsState → BirthsState
after_give version None births = record births { looked = looked_at births.marks None }
after_give version (Some segment) births = record {
  lives = set births.lives segment (born_at version);
  marks = set births.marks segment true;
  looked = looked_at births.marks (Some segment);
}

-- the lives where a segment dies at a version
abbrev pub retired : ℕ → ℕ → List Life → List Life
retired version segment lives =
    set lives segment (record { born = (get_or lives segment never).born; died = Some version })

-- what holds of the two numbers that are kept beside the lists
pub record HasCounts (lives : List Life) (marks : List Bool) (free looked : ℕ) : Type 0 where
  pub many : length lives ≡ length marks
  pub few : length marks ≤ 65535
  pub counted : free ≡ unmarked_in marks
  pub passed : AreMarked looked marks
  pub inside : looked ≤ length marks
