-- What the laws say.
use Rattle.std.specs.Prelude.{◌≡◌, ◌≢◌, ◌↔◌, ◌<◌, ◌≤◌, ◌+◌, ◌⊎◌, ℕ, true, false, Bool, List, Option, Some, None, length, get_or, set, replicate}
use Rattle.ft_retire.specs.declared.life.Life.{Life}
use Rattle.ft_retire.specs.Lives.{never, born_at, lives_at, undone}
use Rattle.ft_retire.specs.Marks.{unmarked_in, keep_living}

-- where the marks are forgotten, no segment is marked, and all are counted
abbrev pub NoMarkIsLeft : Type 0
NoMarkIsLeft = (segments : ℕ)
    → ((segment : ℕ) → segment < segments → get_or (replicate segments false) segment true ≡ false)
    × (unmarked_in (replicate segments false) ≡ segments)

-- none is counted exactly where each is marked
abbrev pub CountTells : Type 0
CountTells = (marks : List Bool)
    → unmarked_in marks ≡ 0 ↔ ((segment : ℕ) → segment < length marks → get_or marks segment true ≡ true)

-- a segment is marked exactly if it was marked or lives at the version that is kept
abbrev pub LivingAreMarked : Type 0
LivingAreMarked = (version : ℕ) (lives : List Life) (marks : List Bool) (segment : ℕ)
    → length lives ≡ length marks → segment < length marks
    → get_or (keep_living version lives marks) segment true ≡ true
    ↔ ((get_or marks segment true ≡ true) ⊎ (lives_at (get_or lives segment never) version ≡ true))

-- a new mark is one less that is counted
abbrev pub OneIsLess : Type 0
OneIsLess = (marks : List Bool) (segment : ℕ) → segment < length marks
    → get_or marks segment true ≡ false
    → unmarked_in (set marks segment true) + 1 ≡ unmarked_in marks

-- one that is born at a version lives at it and at each after it, and at none before
abbrev pub GivenLive : Type 0
GivenLive = (birth version : ℕ)
    → lives_at (born_at birth) version ≡ true ↔ birth ≤ version

-- What came at another version stays. A death at the version of one that had not died is gone. One
-- that is born at the version was never born, also where it died since
abbrev pub UndoneIsBack : Type 0
UndoneIsBack = (version : ℕ) (life : Life) (death : Option ℕ)
    → (life.born ≢ Some version → life.died ≢ Some version → undone version life ≡ life)
    × (life.born ≢ Some version → life.died ≡ None
    → undone version (record { born = life.born; died = Some version }) ≡ life)
    × (undone version (record { born = Some version; died = death }) ≡ never)
