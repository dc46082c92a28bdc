-- Reading a file from left to right, with the first fault that is met. A reading takes a place
-- and gives a value and the place behind it. Longer parts are made of shorter ones by `and_then`,
-- `checked`, `times` and `in_piece`, and what holds of these holds of every part.
use Rattle.std.specs.Prelude.{◌≡◌, ℕ, zero, suc, ◌+◌, Bool, true, false, List, [], ◌∷◌, length, take, drop, Result, Ok, Err, nat_lt, if◌then◌else◌}
use Rattle.byteorder.specs.Endian.{little_number}
use Rattle.ft_xmread.specs.declared.fault.XmFault.{XmFault}
use Rattle.ft_xmread.specs.declared.fault.XmFault.TheVariants.{Short, Count, NoMemory}

-- a place in the file, and the bytes from there on
pub record FilePlace : Type 0 where
  pub at : ℕ
  pub left : List ℕ

abbrev pub FileReading : Type 0 → Type 0
FileReading A = FilePlace → Result (A × FilePlace) XmFault

infixl 10 ◌>>=◌
abbrev pub ◌>>=◌ : {A B : Type 0} → Result A XmFault → (A → Result B XmFault) → Result B XmFault
(Ok x) >>= f = f x
(Err e) >>= f = Err e

-- the next n bytes
unfoldable pub field_at : ℕ → FileReading (List ℕ)
field_at n p = if nat_lt (length p.left) n
    then Err (Short p.at n)
    else Ok (take n p.left, record { at = p.at + n; left = drop n p.left })

-- the next number of n bytes, the low one first
unfoldable pub number_at : ℕ → FileReading ℕ
number_at n p = do
  f ← field_at n p
  Ok (little_number n f.0, f.1)

-- a value, for which nothing is read
abbrev pub give : {A : Type 0} → A → FileReading A
give x p = Ok (x, p)

-- a part, and then a whole that may depend on it
abbrev pub and_then : {A B : Type 0} → FileReading A → (A → FileReading B) → FileReading B
and_then one whole p = do
  x ← one p
  whole x.0 x.1

-- a part that is refused where its value is bad; the fault may name the place of the part
abbrev pub checked : {A : Type 0} → (A → Bool) → (ℕ → A → XmFault) → FileReading A → FileReading A
checked is_bad fault one p = do
  x ← one p
  if is_bad x.0 then Err (fault p.at x.0) else Ok x

-- a number of two bytes that is refused over a limit
abbrev pub count_at : ℕ → FileReading ℕ
count_at most = checked (nat_lt most) Count (number_at 2)

-- a part whose value is seen as another
abbrev pub seen : {A B : Type 0} → (A → B) → FileReading A → FileReading B
seen view one p = do
  x ← one p
  Ok (view x.0, x.1)

-- a part as often as the count says, one after the other; each may depend on its number
unfoldable pub times : {A : Type 0} → (ℕ → FileReading A) → ℕ → ℕ → FileReading (List A)
times one first zero p = Ok ([], p)
times one first (suc n) p = do
  x ← one first p
  others ← times one (suc first) n x.1
  Ok (x.0 ∷ others.0, others.1)

-- a byte that is there or else is 0
abbrev pub byte_if : Bool → FileReading ℕ
byte_if true p = number_at 1 p
byte_if false p = Ok (0, p)

-- the next n bytes as a place of their own
unfoldable pub piece_at : ℕ → FileReading FilePlace
piece_at n p = do
  f ← field_at n p
  Ok (record { at = p.at; left = f.0 }, f.1)

-- a part of the next n bytes, and what it leaves of them
abbrev pub in_piece : {A : Type 0} → ℕ → FileReading A → FileReading (A × List ℕ)
in_piece n one p = do
  piece ← piece_at n p
  x ← one piece.0
  Ok ((x.0, x.1.left), piece.1)

-- What a reader answered at a place is this reading, unless memory ran out; it goes on at the
-- reading's place.
abbrev pub FileFails : {Y : Type 0} → XmFault → Result Y XmFault → Type 0
FileFails NoMemory read = Unit {0}
FileFails f read = read ≡ Err f

abbrev pub FileReads : {X Y : Type 0} → (X → Y) → Result X XmFault → FilePlace
    → Result (Y × FilePlace) XmFault
    → Type 0
FileReads view (Ok x) next read = read ≡ Ok (view x, next)
FileReads view (Err e) next read = FileFails e read
