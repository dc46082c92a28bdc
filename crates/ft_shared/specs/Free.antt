-- How many segments a scan found, and how many it left free.
use Rattle.std.specs.Prelude.{◌≡◌, ◌⊎◌, ◌↔◌, ◌≤◌, ℕ, ◌+◌, ◌-◌, ◌<◌, nat_lt, List, Option, Some, None, IsSome, IfSome, slice_index_or, Contains}
use Rattle.ft_segments.specs.Walk.{ids_of, uses, sample_walk, sample_uses}
use Rattle.ft_segments.specs.Pins.{PinHolds}
use Rattle.ft_shared.specs.declared.law.PlacedVersion.{PlacedVersion}
use Rattle.ft_shared.specs.declared.law.Pin.{Pin}
use Rattle.ft_shared.specs.declared.law.PinAnswer.{PinAnswer}
use Rattle.ft_shared.specs.declared.law.Hold.{Hold}
use Rattle.ft_shared.specs.declared.law.Account.{Account}
use Rattle.ft_shared.specs.Counts.{bit, total, sum_below, pin_of, pin_word}
use Rattle.ft_shared.specs.History.{placed_at, root_and_pool, IsOfVersion}
use Rattle.ft_shared.specs.Account.{slot_at, pinned_root, IsHeldSlot, IsSettledReader}
use Rattle.ft_shared.specs.HeldSegments.{IsHeldBy}

-- how often a version names the segment
abbrev pub uses_placed : ℕ → Option PlacedVersion → ℕ
uses_placed segment None = 0
uses_placed segment (Some placed) = uses segment (ids_of (root_and_pool placed))

-- how often the version that was answered for a slot names it, by the history
abbrev pub answer_uses : List PlacedVersion → ℕ → Option ℕ → ℕ
answer_uses history segment None = 0
answer_uses history segment (Some version) = uses_placed segment (placed_at history version)

-- how often the root that was answered for a pin names it, by the words last written
abbrev pub root_uses : List ℕ → ℕ → Option ℕ → ℕ
root_uses pool segment None = 0
root_uses pool segment (Some root) = sample_uses segment (sample_walk pool root)

abbrev pub pin_uses : List ℕ → ℕ → PinAnswer → ℕ
pin_uses pool segment answer = root_uses pool segment answer.root

-- how often the scan found the segment: in the current version, in those that it answered, and
-- under the pins that it answered
abbrev pub finds : Account → ℕ → ℕ
finds account segment =
    uses_placed segment (placed_at account.history account.version)
    + total (answer_uses account.history segment) account.scan
    + total (pin_uses account.pool segment) account.pin_scan

-- 1 where the scan found the segment
abbrev pub is_found : Account → ℕ → ℕ
is_found account segment = bit (nat_lt 0 (finds account segment))

-- how many segments of the pool the scan found
abbrev pub found_in_pool : Account → ℕ
found_in_pool account = sum_below (is_found account) account.sizes.segments

-- how many it left free
abbrev pub free_in_pool : Account → ℕ
free_in_pool account = account.sizes.segments - found_in_pool account

-- ---- while all passes are settled

-- A settled pass holds the segment, or it is one of the current version
abbrev pub IsHeldSettled : Account → ℕ → Type 0
IsHeldSettled account segment =
    IsOfVersion account.history account.version segment
    ⊎ ((hold : Hold) × Contains account.settled hold
    × IsHeldBy account.history hold.notes segment)

-- The scan answered what `scan_slot` and `scan_pin` answer while all passes are settled: of each
-- slot its version where it is current or a settled pass holds it, and of each pin that was looked
-- at the one that the settled pass has
pub record IsExactScan (account : Account) : Type 0 where
  pub slots : (slot : ℕ) → slot < account.sizes.readers + 2
      → IsSome (slice_index_or account.scan slot None)
      ↔ ((slot ≡ account.slot) ⊎ IsHeldSlot account slot)
  pub versions : (slot : ℕ) → IfSome (slice_index_or account.scan slot None) (λ version.
      version ≡ (slot_at account slot).version)
  pub settled : (answer : PinAnswer) → Contains account.pin_scan answer
      → (hold : Hold) × IsSettledReader account answer.reader hold
  pub pins : (answer : PinAnswer) → Contains account.pin_scan answer
      → (hold : Hold) → IsSettledReader account answer.reader hold
      → answer.root ≡ pinned_root (pin_word (pin_of hold.notes answer.channel))

-- Each pin of a settled pass holds all that its root names by the words last written, as it does
-- where the root is that of a sample of the version from which it was set
abbrev pub DoPinsHoldAll : Account → Type 0
DoPinsHoldAll account =
    (hold : Hold) (channel : ℕ) (pin : Pin) → Contains account.settled hold
    → pin_of hold.notes channel ≡ Some pin → (segment : ℕ)
    → 1 ≤ sample_uses segment (sample_walk account.pool pin.root)
    → (placed : PlacedVersion) × (placed_at account.history pin.version ≡ Some placed)
    × PinHolds (root_and_pool placed) pin.root segment
