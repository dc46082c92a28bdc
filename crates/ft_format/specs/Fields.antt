-- Fields: how numbers are spelled, what numbers and bytes a field of a file can hold, and parts of
-- parts. All numbers are little-endian.
use Rattle.std.specs.Prelude.{◌≡◌, ℕ, ◌<◌, ◌^◌, Bool, true, false, List, [], ◌∷◌, ◌++◌, length, All, get_or, min, max}
use Rattle.byteorder.specs.Endian.{little_bytes}

-- a field of one byte, of two and of four
abbrev pub byte : ℕ → List ℕ
byte x = x ∷ []

abbrev pub two_bytes : ℕ → List ℕ
two_bytes x = little_bytes 2 x

abbrev pub four_bytes : ℕ → List ℕ
four_bytes x = little_bytes 4 x

-- a number in a field of n bytes
abbrev pub IsNumber : ℕ → ℕ → Type 0
IsNumber n v = v < 256 ^ n

-- each is a byte
abbrev pub AreBytes : List ℕ → Type 0
AreBytes bytes = (i : ℕ) → get_or bytes i 0 < 256

-- a field of n bytes
abbrev pub IsField : ℕ → List ℕ → Type 0
IsField n bytes = (length bytes ≡ n) × AreBytes bytes

-- n values of a kind
pub record AllFit {A : Type 0} (n : ℕ) (F : A → Type 0) (xs : List A) : Type 0 where
  pub count : length xs ≡ n
  pub each : All F xs

-- a value and a surplus, which have n bytes together
pub record FitsWithin {A : Type 0} (n : ℕ) (text : A → List ℕ) (F : A → Type 0) (x : A × List ℕ) :
    Type 0 where
  pub fits : F x.0
  pub whole : length (text x.0 ++ x.1) ≡ n
  pub bytes : AreBytes x.1

-- a byte that may be left out
abbrev pub byte_if_text : Bool → ℕ → List ℕ
byte_if_text true x = x ∷ []
byte_if_text false x = []

-- a byte, or 0 where it is left out
abbrev pub IsByteIf : Bool → ℕ → Type 0
IsByteIf true x = IsNumber 1 x
IsByteIf false x = x ≡ 0

-- the nearest number of a range
abbrev pub brought : ℕ → ℕ → ℕ → ℕ
brought low high x = max low (min high x)
