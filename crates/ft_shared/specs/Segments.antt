-- The rule of the segments: what holds of the words of the pool between any two steps.
use Rattle.std.specs.Prelude.{◌≡◌, ◌⊎◌, ℕ, ◌+◌, ◌<◌, ◌≤◌, if◌then◌else◌, List, [], length, slice_index, slice_index_or, All, Option, Some, None, IfSome}
use mathlib.Core.Option.{some}
use lib.ListN.{get_elem?}
use Rattle.ft_segments.specs.Walk.{IsOf, SameWords}
use Rattle.ft_segments.specs.Pins.{PinHolds}
use Rattle.ft_shared.specs.declared.law.Sizes.{Sizes}
use Rattle.ft_shared.specs.declared.law.PlacedVersion.{PlacedVersion}
use Rattle.ft_shared.specs.declared.law.TakenVersion.{TakenVersion}
use Rattle.ft_shared.specs.declared.law.Pin.{Pin}
use Rattle.ft_shared.specs.declared.law.Hold.{Hold}
use Rattle.ft_shared.specs.declared.law.Account.{Account}
use Rattle.ft_shared.specs.declared.law.View.{View}
use Rattle.ft_shared.specs.Counts.{IsBehind, pin_of}
use Rattle.ft_shared.specs.History.{placed_at, root_and_pool, HasVersion, AreSound}
use Rattle.ft_shared.specs.Account.{slot_at, IsAnswered, IsPinAnswer, IsPinMet}

-- A segment of a version is as it was: its words are the version's, and it was last filled for that
-- version or an earlier one
abbrev pub IsAsPlaced : Account → PlacedVersion → ℕ → Type 0
IsAsPlaced account placed segment =
    SameWords placed.pool account.pool segment
    × (slice_index account.filled segment ≤ placed.version)

-- No segment of the version was written since
abbrev pub IsUnwritten : Account → ℕ → Type 0
IsUnwritten account version = IfSome (placed_at account.history version) (λ placed.
    (segment : ℕ) → IsOf (root_and_pool placed) segment → IsAsPlaced account placed segment)

-- Nothing that the pin holds of its version was written since
abbrev pub IsPinUnwritten : Account → Pin → Type 0
IsPinUnwritten account pin = IfSome (placed_at account.history pin.version) (λ placed.
    (segment : ℕ) → PinHolds (root_and_pool placed) pin.root segment
    → IsAsPlaced account placed segment)

-- What holds of a pin: its version is in the history, and nothing that it holds was written since
pub record IsStanding (account : Account) (pin : Pin) : Type 0 where
  pub small : pin.root < 65536
  pub known : HasVersion account.history pin.version
  pub unwritten : IsPinUnwritten account pin

-- What a pass holds was not written since
pub record IsHoldUnwritten (account : Account) (hold : Hold) : Type 0 where
  pub held : (taken : TakenVersion) → hold.notes.held ≡ Some taken
      → IsUnwritten account taken.version
  pub wide : length hold.notes.pins ≡ account.sizes.channels
  pub pins : (channel : ℕ) (pin : Pin) → pin_of hold.notes channel ≡ Some pin
      → IsStanding account pin

-- Nothing that the writer knows to be held was written since: the segments of the current version,
-- those of each version that the scan answered, and what each settled pass holds
pub record KeepsHeld (account : Account) : Type 0 where
  pub current : IsUnwritten account account.version
  pub answered : (version : ℕ) → IsAnswered account version → IsUnwritten account version
  pub settled : All (IsHoldUnwritten account) account.settled

-- A pin that the scan looked at is the one that it found there, or was set from a version that it
-- answered
abbrev pub ArePinsScanned : Account → Hold → Type 0
ArePinsScanned account hold = (channel : ℕ) (pin : Pin) → pin_of hold.notes channel ≡ Some pin
    → IsPinMet account hold.notes.number channel
    → IsPinAnswer account hold.notes.number channel (Some pin.root)
    ⊎ IsAnswered account pin.version

-- what a scan answers of a slot, by what is known of it
abbrev pub slot_answer : Account → ℕ → Option ℕ
slot_answer account slot =
    if (slot_at account slot).free then None else Some (slot_at account slot).version

pub record SegmentRule (sizes : Sizes) (views : List View) (account : Account) : Type 0 where
  -- no segment was filled for a version after the next one
  pub filled : (length account.filled ≡ sizes.segments)
      × ((segment : ℕ) → slice_index account.filled segment ≤ account.version + 1)
  -- the walk of each version of the history stays in the pool, and names each segment once
  pub sound : AreSound sizes.segments account.history
  -- the current version was not written since it was published
  pub current : IsUnwritten account account.version
  -- each slot bears, or bore last, a version of the history
  pub borne : (slot : ℕ) → slot < sizes.readers + 2
      → HasVersion account.history (slot_at account slot).version
  -- the scan answered of each slot the version that it bears, or that it was found free
  pub answers : (slot : ℕ) → slot < length account.scan
      → slice_index_or account.scan slot None ≡ slot_answer account slot
  -- no version that the scan answered was written since
  pub answered : (version : ℕ) → IsAnswered account version → IsUnwritten account version
  -- pins are looked at after the slots
  pub order : (account.pin_scan ≡ []) ⊎ (length account.scan ≡ sizes.readers + 2)
  -- scanned pins, settled passes included
  pub scanned : (seat : ℕ) (view : View) (hold : Hold) → get_elem? views seat ≡ some view
      → IsBehind view hold → ArePinsScanned account hold
  -- what is held was not written since, settled passes included
  pub kept : (seat : ℕ) (view : View) (hold : Hold) → get_elem? views seat ≡ some view
      → IsBehind view hold → IsHoldUnwritten account hold
