-- What holds of a sink that takes some bytes piece by piece.
use Rattle.std.specs.Prelude.{◌≡◌, ℕ, List, [], ◌++◌, Option}
use Rattle.std.specs.Io.KnownBytes.{Appends}
use Rattle.ft_outer.specs.Pieces.{TakesUpTo, TakesFront}

-- before the first call all is left
abbrev pub TakesNothingFirst : Type 0
TakesNothingFirst = (old : Option (List ℕ)) (bytes : List ℕ) → TakesUpTo old old bytes bytes

-- the next piece is taken whole, and the rest is left
abbrev pub TakesPieceNext : Type 0
TakesPieceNext = (old now later : Option (List ℕ)) (bytes piece rest : List ℕ)
    → TakesUpTo old now bytes (piece ++ rest) → Appends now later piece
    → TakesUpTo old later bytes rest

-- a front of the next piece ends a front of all
abbrev pub TakesFrontLast : Type 0
TakesFrontLast = (old now later : Option (List ℕ)) (bytes piece rest : List ℕ)
    → TakesUpTo old now bytes (piece ++ rest) → TakesFront now later piece
    → TakesFront old later bytes

-- once nothing is left all was taken
abbrev pub TakesAllLast : Type 0
TakesAllLast = (old now : Option (List ℕ)) (bytes rest : List ℕ)
    → TakesUpTo old now bytes rest → rest ≡ [] → Appends old now bytes

-- some bytes and then others are the two together
abbrev pub AppendsInTurn : Type 0
AppendsInTurn = (old now later : Option (List ℕ)) (first second : List ℕ)
    → Appends old now first → Appends now later second → Appends old later (first ++ second)
