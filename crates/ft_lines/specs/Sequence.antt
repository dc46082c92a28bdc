-- Reading from the left, one part after the other. A reading takes a place, and gives a value with
-- the place behind it, or the first fault that is met.
use Rattle.std.specs.Prelude.{◌≡◌, Result, Ok, Err}

-- of places `P`, with faults `E`
abbrev pub ReadingOf : Type 0 → Type 0 → Type 0 → Type 0
ReadingOf P E A = P → Result (A × P) E

-- the value is what is read, and nothing is read for it
abbrev pub give : {P E A : Type 0} → A → ReadingOf P E A
give x p = Ok (x, p)

-- a reading that may depend on a value, behind that value
abbrev pub follow : {P E A B : Type 0} → (A → ReadingOf P E B) → Result (A × P) E → Result (B × P) E
follow next (Ok read) = next read.0 read.1
follow next (Err fault) = Err fault

infixl 10 ◌>>=◌
abbrev pub ◌>>=◌ : {P E A B : Type 0} → ReadingOf P E A → (A → ReadingOf P E B) → ReadingOf P E B
(first >>= next) p = follow next (first p)

-- the value alone, of a reading that is done
abbrev pub read_value : {P E A : Type 0} → Result (A × P) E → Result A E
read_value (Ok read) = Ok read.0
read_value (Err fault) = Err fault

-- what was answered at a place is this reading, which goes on at the next place. What is answered
-- may be seen as another value, and says of itself whether it is the fault of a reading
abbrev pub ReadsBy : {X Y P E F : Type 0} → (F → Result (Y × P) E → Type 0) → (X → Y) → Result X F
    → P → Result (Y × P) E → Type 0
ReadsBy fails view (Ok x) next read = read ≡ Ok (view x, next)
ReadsBy fails view (Err fault) next read = fails fault read
