-- What a scan names of a pool, and how marks on its segments say so.
use Rattle.std.specs.Prelude.{◌≡◌, ◌↔◌, ◌⊎◌, ℕ, ◌<◌, ◌≤◌, true, List, length, Some, get_or, slice_index_or}
use Rattle.ft_segments.specs.Walk.{IsOf, sample_walk, sample_uses}
use Rattle.ft_shared.specs.declared.law.PinAnswer.{PinAnswer}
use Rattle.ft_shared.specs.declared.law.PlacedVersion.{PlacedVersion}
use Rattle.ft_shared.specs.declared.law.WordStep.{WordStep}
use Rattle.ft_shared.specs.declared.law.Account.{Account}
use Rattle.ft_shared.specs.Account.{slot_at, IsAnswered, IsPinAnswer}
use Rattle.ft_shared.specs.History.{placed_at, root_and_pool, IsOfVersion}
use Rattle.ft_shared.specs.Pass.{WriterState}
use Rattle.ft_shared.specs.Segments.{IsUnwritten}
use Rattle.ft_retire.specs.Births.{BirthsState}
use Rattle.ft_retire.specs.Lives.{never, lives_at}

-- Births fit each version that was not written since: of that many segments, those that live at it
-- are its segments
abbrev pub AreBirthsFit : ℕ → Account → BirthsState → Type 0
AreBirthsFit segments account births =
    (version : ℕ) (placed : PlacedVersion) → placed_at account.history version ≡ Some placed
    → IsUnwritten account version → (segment : ℕ) → segment < segments
    → lives_at (slice_index_or births.lives segment never) version ≡ true
    ↔ IsOf (root_and_pool placed) segment

-- A pinned root that the scan answered names the segment, by the words last written
abbrev pub IsNamedByPins : Account → ℕ → Type 0
IsNamedByPins account segment = (reader channel root : ℕ)
    × IsPinAnswer account reader channel (Some root)
    × (1 ≤ sample_uses segment (sample_walk account.pool root))

-- What the scan answered so far names the segment: a version of which it is one, or a pinned root
abbrev pub IsNamedByScan : Account → ℕ → Type 0
IsNamedByScan account segment =
    ((version : ℕ) × IsAnswered account version × IsOfVersion account.history version segment)
    ⊎ IsNamedByPins account segment

abbrev pub IsMarked : BirthsState → ℕ → Type 0
IsMarked births segment = get_or births.marks segment true ≡ true

-- There is a mark for each of that many segments, which is set where the scan named the segment
pub record AreMarksOf (segments : ℕ) (account : Account) (births : BirthsState) : Type 0 where
  pub many : length births.marks ≡ segments
  pub marked : (segment : ℕ) → segment < segments
      → IsMarked births segment ↔ IsNamedByScan account segment

-- marks were added: that of each segment that these names have
pub record HasMarked (old new : BirthsState) (names : ℕ → Type 0) : Type 0 where
  pub lives : new.lives ≡ old.lives
  pub looked : new.looked ≡ old.looked
  pub many : length new.marks ≡ length old.marks
  pub marked : (segment : ℕ) → segment < length old.marks
      → IsMarked new segment ↔ (IsMarked old segment ⊎ names segment)

-- Nothing of the writer's pass changed but its scan, its steps, and which slots were found free
pub record HasScanned (old new : WriterState) : Type 0 where
  pub register : new.register ≡ old.register
  pub sizes : new.account.sizes ≡ old.account.sizes
  pub version : new.account.version ≡ old.account.version
  pub root : new.account.root ≡ old.account.root
  pub slot : new.account.slot ≡ old.account.slot
  pub versions : (slot : ℕ) → (slot_at new.account slot).version
      ≡ (slot_at old.account slot).version
  pub settled : new.account.settled ≡ old.account.settled
  pub history : new.account.history ≡ old.account.history
  pub pool : new.account.pool ≡ old.account.pool
  pub filled : new.account.filled ≡ old.account.filled

-- more was answered of pins, and more steps were made; all else of the writer's pass is as it was
pub record HasSeenPins (old new : WriterState) : Type 0 where
  pub pins : List PinAnswer
  pub pinned : ℕ
  pub steps : List WordStep
  pub is : new ≡ record old {
    account = record old.account { pin_scan = pins; pinned = pinned; steps = steps };
  }
