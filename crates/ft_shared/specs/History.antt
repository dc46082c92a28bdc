-- The history of a register, and what it says of a reader's notes.
use Rattle.std.specs.Prelude.{◌≡◌, ℕ, ◌+◌, ◌==◌, if◌then◌else◌, List, [], ◌∷◌, length, All, Option, Some, None, IsSome, IsSomeAnd}
use mathlib.Core.Option.{some}
use lib.ListN.{get_elem?}
use Rattle.ft_segments.specs.Packing.{word_at}
use Rattle.ft_segments.specs.Walk.{Placed, IsOf, IsSound, ids_of}
use Rattle.ft_segments.specs.Pins.{PinHolds}
use Rattle.ft_shared.specs.declared.law.PlacedVersion.{PlacedVersion}
use Rattle.ft_shared.specs.declared.law.TakenVersion.{TakenVersion}
use Rattle.ft_shared.specs.declared.law.WordRead.{WordRead}
use Rattle.ft_shared.specs.declared.law.Notes.{Notes}

-- the version of a history by its number
abbrev pub placed_at : List PlacedVersion → ℕ → Option PlacedVersion
placed_at [] version = None
placed_at (placed ∷ history) version =
    if placed.version == version then Some placed else placed_at history version

-- its root and the words of the pool
abbrev pub root_and_pool : PlacedVersion → Placed
root_and_pool placed = record { root = placed.root; pool = placed.pool }

-- The history has this version
abbrev pub HasVersion : List PlacedVersion → ℕ → Type 0
HasVersion history version = IsSome (placed_at history version)

-- The history has this version, with this root
abbrev pub HasTakenVersion : List PlacedVersion → TakenVersion → Type 0
HasTakenVersion history taken =
    IsSomeAnd (placed_at history taken.version) (λ placed. placed.root ≡ taken.root)

-- The segment is one of the history's version of this number
abbrev pub IsOfVersion : List PlacedVersion → ℕ → ℕ → Type 0
IsOfVersion history version segment =
    IsSomeAnd (placed_at history version) (λ placed. IsOf (root_and_pool placed) segment)

-- What may be read of a version: without a pin its segments, and by a pin those that the pin holds
-- of it
abbrev pub IsReadable : PlacedVersion → Option ℕ → ℕ → Type 0
IsReadable placed None segment = IsOf (root_and_pool placed) segment
IsReadable placed (Some root) segment = PinHolds (root_and_pool placed) root segment

-- The history has the version that was read, and there the word that was read, where it may be read
abbrev pub HasRead : List PlacedVersion → WordRead → Type 0
HasRead history read =
    IsSomeAnd (placed_at history read.version) (λ placed.
    IsReadable placed read.pin read.segment
    → word_at placed.pool read.segment read.at ≡ read.word)

-- The history agrees with a reader's notes: it has each version that was looked at, each that was
-- taken or is held, with that root, and each word that was read
pub record Agrees (history : List PlacedVersion) (notes : Notes) : Type 0 where
  pub looks : All (HasVersion history) notes.looks
  pub takes : All (HasTakenVersion history) notes.takes
  pub held : (taken : TakenVersion) → notes.held ≡ Some taken → HasTakenVersion history taken
  pub reads : All (HasRead history) notes.reads

-- The walk of a version stays among that many segments, and names each once
abbrev pub IsSoundVersion : ℕ → PlacedVersion → Type 0
IsSoundVersion segments placed = IsSound segments (ids_of (root_and_pool placed))

-- So does that of each version of the history
abbrev pub AreSound : ℕ → List PlacedVersion → Type 0
AreSound segments history = All (IsSoundVersion segments) history

-- The history has each version from the first to the last in order, and the last has this root
pub record IsHistory (history : List PlacedVersion) (first last root : ℕ) : Type 0 where
  pub count : length history + first ≡ last + 1
  pub versions : (n : ℕ) (placed : PlacedVersion) → get_elem? history n ≡ some placed
      → placed.version ≡ first + n
  pub latest : HasTakenVersion history (record { version = last; root = root })
