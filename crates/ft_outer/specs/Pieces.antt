-- What a sink took of some bytes, and what a source gave, over one call or many.
use Rattle.std.specs.Prelude.{◌≡◌, ℕ, ◌+◌, ◌<◌, List, [], ◌++◌, length, Option, Some, None, ⊤}
use Rattle.std.specs.Io.KnownBytes.{Appends, Consumes}

-- the sink took a front of the bytes, and this rest is left
pub record TakesUpTo (old new : Option (List ℕ)) (bytes rest : List ℕ) : Type 0 where
  pub front : List ℕ
  pub whole : bytes ≡ front ++ rest
  pub taken : Appends old new front

-- the sink took a front of the bytes
abbrev pub TakesFront : Option (List ℕ) → Option (List ℕ) → List ℕ → Type 0
TakesFront old new bytes = (rest : List ℕ) × TakesUpTo old new bytes rest

-- the source gave these bytes, and its count of bytes rose by as many
pub record Gives (old new : Option (List ℕ)) (before now : ℕ) (bytes : List ℕ) : Type 0 where
  pub consumed : Consumes old new bytes
  pub counted : now ≡ before + length bytes

-- where it was known what the source had left, it gave exactly that, and nothing is left
abbrev pub GivesAll : Option (List ℕ) → Option (List ℕ) → List ℕ → Type 0
GivesAll None new bytes = ⊤
GivesAll (Some file) new bytes = (bytes ≡ file) × (new ≡ Some [])

-- where it is known what the source has left, that is more than that many bytes
abbrev pub HasMore : Option (List ℕ) → ℕ → Type 0
HasMore None most = ⊤
HasMore (Some file) most = most < length file
