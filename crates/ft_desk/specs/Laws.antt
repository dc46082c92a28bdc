-- What the laws say.
use Rattle.std.specs.Prelude.{◌≡◌, ◌↔◌, ◌<◌, ℕ, false, List, [], ◌∷◌, Bool, Option, None, Some, IsSome, length, replicate}
use Rattle.ft_segments.specs.Walk.{Placed, IsOf, ids_of}
use Rattle.ft_shared.specs.declared.law.Account.{Account}
use Rattle.ft_shared.specs.Account.{IsAnswered, Found}
use Rattle.ft_shared.specs.History.{HasVersion}
use Rattle.ft_shared.specs.Segments.{KeepsHeld}
use Rattle.ft_retire.specs.declared.life.Life.{Life}
use Rattle.ft_retire.specs.Births.{BirthsState}
use Rattle.ft_retire.specs.Marks.{keep_living, IsLeastUnmarked}
use Rattle.ft_desk.specs.Desk.{DeskState, IsDesk}
use Rattle.ft_desk.specs.Survey.{AreBirthsFit, IsNamedByPins, IsMarked, HasMarked}
use Rattle.ft_desk.specs.Parts.{Part, BornPart, part_of, entry_of}

-- a segment is a part of the version exactly where it is one of the version's
abbrev pub SegmentsAreParts : Type 0
SegmentsAreParts = (placed : Placed) (segment : ℕ)
    → IsOf placed segment ↔ IsSome (part_of (ids_of placed) segment)

-- different segments of a version are different parts of it
abbrev pub PartsDiffer : Type 0
PartsDiffer = (placed : Placed) (one other : ℕ) (part : Part)
    → part_of (ids_of placed) one ≡ Some part → part_of (ids_of placed) other ≡ Some part
    → one ≡ other

-- different segments have different entries in the list of parts
abbrev pub EntriesDiffer : Type 0
EntriesDiffer = (account : Account) (one other : ℕ) (entry : BornPart)
    → entry_of account one ≡ Some entry → entry_of account other ≡ Some entry
    → one ≡ other

-- births fit each version of a desk that was not written since, so a survey of it finds what is held
abbrev pub DesksFit : Type 0
DesksFit = (desk : DeskState) → IsDesk desk
    → AreBirthsFit desk.writer.register.sizes.segments desk.writer.account desk.births

-- the marks where each version that a scan answered of a slot is kept, one after the other
abbrev pub keep_answers : List Life → List (Option ℕ) → List Bool → List Bool
keep_answers lives [] marks = marks
keep_answers lives (None ∷ answers) marks = keep_answers lives answers marks
keep_answers lives (Some version ∷ answers) marks =
    keep_answers lives answers (keep_living version lives marks)

-- Where births fit the versions that a scan answered, which were not written since, and each of them
-- was kept, and each segment that a pinned root names which it answered, just the segments of the
-- pool are marked that the scan found. The current version was answered
abbrev pub MarkedIsFound : Type 0
MarkedIsFound = (segments : ℕ) (account : Account) (births kept new : BirthsState)
    → AreBirthsFit segments account births → KeepsHeld account
    → ((version : ℕ) → IsAnswered account version → HasVersion account.history version)
    → IsAnswered account account.version → length births.lives ≡ segments
    → kept.marks ≡ keep_answers births.lives account.scan (replicate segments false)
    → HasMarked kept new (IsNamedByPins account)
    → (segment : ℕ) → segment < segments → IsMarked new segment ↔ Found account segment

-- where just what a scan found is marked, the least unmarked segment was not found
abbrev pub UnmarkedIsNotFound : Type 0
UnmarkedIsNotFound = (account : Account) (births : BirthsState) (segment : ℕ)
    → ((other : ℕ) → other < length births.marks
    → IsMarked births other ↔ Found account other)
    → IsLeastUnmarked births.marks segment → Found account segment → ⊥
