-- Which segments are held.
use Rattle.std.specs.Prelude.{◌≡◌, ◌⊎◌, ℕ, List, Some, IsSomeAnd}
use mathlib.Core.Option.{some}
use lib.ListN.{get_elem?}
use Rattle.ft_segments.specs.Pins.{PinHolds}
use Rattle.ft_shared.specs.declared.law.PlacedVersion.{PlacedVersion}
use Rattle.ft_shared.specs.declared.law.TakenVersion.{TakenVersion}
use Rattle.ft_shared.specs.declared.law.Pin.{Pin}
use Rattle.ft_shared.specs.declared.law.Notes.{Notes}
use Rattle.ft_shared.specs.declared.law.Hold.{Hold}
use Rattle.ft_shared.specs.declared.law.Account.{Account}
use Rattle.ft_shared.specs.declared.law.View.{View}
use Rattle.ft_shared.specs.Counts.{IsBehind, pin_of}
use Rattle.ft_shared.specs.History.{placed_at, root_and_pool, IsOfVersion}

-- The segment is one that the pin holds of its version
abbrev pub IsOfPin : List PlacedVersion → Pin → ℕ → Type 0
IsOfPin history pin segment =
    IsSomeAnd (placed_at history pin.version) (λ placed.
    PinHolds (root_and_pool placed) pin.root segment)

-- A pass holds the segment: by the version that it holds, or by a pin
abbrev pub IsHeldBy : List PlacedVersion → Notes → ℕ → Type 0
IsHeldBy history notes segment =
    ((taken : TakenVersion) × (notes.held ≡ Some taken)
    × IsOfVersion history taken.version segment)
    ⊎ ((channel : ℕ) × (pin : Pin) × (pin_of notes channel ≡ Some pin)
    × IsOfPin history pin segment)

-- The segment is held: it is one of the current version, or a pass holds it, settled passes
-- included
abbrev pub IsHeld : Account → List View → ℕ → Type 0
IsHeld account views segment =
    IsOfVersion account.history account.version segment
    ⊎ ((seat : ℕ) × (view : View) × (hold : Hold) × (get_elem? views seat ≡ some view)
    × IsBehind view hold × IsHeldBy account.history hold.notes segment)
