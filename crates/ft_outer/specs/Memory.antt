-- The sources and sinks in memory as values.
use Rattle.std.specs.Prelude.{◌≡◌, ℕ, ◌-◌, min, List, ◌++◌, length, take, drop}
use Rattle.ft_outer.specs.Counts.{count_after}

-- bytes that are given piece by piece
pub record SupplyState : Type 0 where
  -- the bytes that are left
  pub left : List ℕ
  -- the largest piece
  pub piece : ℕ
  -- how many bytes were given
  pub given : ℕ

-- a place for bytes
pub record ShelfState : Type 0 where
  -- the bytes that it took
  pub bytes : List ℕ
  -- the most that it takes
  pub room : ℕ
  -- the largest piece
  pub piece : ℕ

-- calls that are counted, and some of which fail
pub record CallState : Type 0 where
  -- the numbers of the calls that fail, counted from 1
  pub fails : List ℕ
  -- how many calls there were
  pub made : ℕ
  -- how many faults there were
  pub faults : ℕ

-- a source in memory, some of whose calls fail
pub record MemSourceState : Type 0 where
  pub supply : SupplyState
  pub calls : CallState

-- a sink in memory, some of whose calls fail
pub record MemSinkState : Type 0 where
  pub shelf : ShelfState
  pub calls : CallState

-- a sink in memory that fails only where its room is full
pub record SureSinkState : Type 0 where
  pub shelf : ShelfState
  pub faults : ℕ

-- the number of the next call
abbrev pub next_call : CallState → ℕ
next_call calls = count_after calls.made 1

-- one call more
abbrev pub after_call : CallState → CallState
after_call calls = record calls { made = count_after calls.made 1 }

-- one fault more
abbrev pub after_fault : CallState → CallState
after_fault calls = record calls { faults = count_after calls.faults 1 }

-- how many bytes a call gives into a buffer of this length
abbrev pub share_of : SupplyState → ℕ → ℕ
share_of supply room = min (min room supply.piece) (length supply.left)

-- the supply after a call that gave n bytes
abbrev pub after_giving : SupplyState → ℕ → SupplyState
after_giving supply n =
    record supply { left = drop n supply.left; given = count_after supply.given n }

-- no byte more fits
abbrev pub IsFull : ShelfState → Type 0
IsFull shelf = length shelf.bytes ≡ shelf.room

-- how many bytes a call takes of that many
abbrev pub fit_of : ShelfState → ℕ → ℕ
fit_of shelf n = min (min n shelf.piece) (shelf.room - length shelf.bytes)

-- the shelf after a call that took a front of the piece
abbrev pub after_taking : ShelfState → List ℕ → ℕ → ShelfState
after_taking shelf piece n = record shelf { bytes = shelf.bytes ++ take n piece }
