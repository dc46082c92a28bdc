-- The lives of segments.
use Rattle.std.specs.Prelude.{ℕ, ◌==◌, ◌&&◌, not, Bool, false, Option, None, Some, nat_le, if◌then◌else◌}
use Rattle.ft_retire.specs.declared.life.Life.{Life}

-- that of a segment that was never born
abbrev pub never : Life
never = record { born = None; died = None }

-- that of one that is born at a version: it has not died
abbrev pub born_at : ℕ → Life
born_at version = record { born = Some version; died = None }

-- whether a birth or a death, if it came at all, came at a version or before it
abbrev pub came_by : ℕ → Option ℕ → Bool
came_by version None = false
came_by version (Some came) = nat_le came version

-- A segment lives at a version where it was born at or before it and is not dead at it. It is dead
-- at the very version of its death
abbrev pub lives_at : Life → ℕ → Bool
lives_at life version = came_by version life.born && not (came_by version life.died)

-- whether a birth or a death came at this version
abbrev pub came_at : ℕ → Option ℕ → Bool
came_at version None = false
came_at version (Some came) = came == version

-- one that was born at the version was never born, and one that died at it lives on
abbrev pub undone : ℕ → Life → Life
undone version life =
    if came_at version life.born then never
    else if came_at version life.died then record { born = life.born; died = None }
    else life
