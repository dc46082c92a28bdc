-- How a ledger is read: line by line from the front, up to the first line that can't be there. The
-- bytes are cut at each LF, so all parts but the last are lines, and the last has to be empty.
use Rattle.std.specs.Prelude.{ℕ, suc, ◌+◌, ◌==◌, Bool, true, false, List, [], ◌∷◌, length, min, Option, Some, None, Result, Ok, Err, if◌then◌else◌}
use Rattle.std.specs.List.{slice_split}
use Rattle.ft_text.specs.LedgerWords.{said, head, play, entry, refusal, tick, hand, saved, end}
use Rattle.ft_lines.specs.Sequence.{ReadingOf, ◌>>=◌, read_value}
use Rattle.ft_text.specs.Record.{LedgerAccount}

-- a place in a ledger: how many lines are before it, and the parts from there on
pub record LedgerPlace : Type 0 where
  pub at : ℕ
  pub left : List (List ℕ)

-- a value and the place behind it, or the number of the line that can't be there
abbrev pub LinesReading : Type 0 → Type 0
LinesReading A = ReadingOf LedgerPlace ℕ A

-- the number of the line behind that many, from 1; the greatest u32 stands for any from there on
abbrev pub line_number : ℕ → ℕ
line_number before = min (before + 1) 4294967295

-- a value, and the place behind its line; or that this line is wrong
abbrev pub line_or_wrong : {A : Type 0} → ℕ → List (List ℕ) → Option A → Result (A × LedgerPlace) ℕ
line_or_wrong at rest None = Err (line_number at)
line_or_wrong at rest (Some x) = Ok (x, record { at = at + 1; left = rest })

-- a line is a part with another behind it
abbrev pub line_at : {A : Type 0} → (List ℕ → Option A) → ℕ → List (List ℕ)
    → Result (A × LedgerPlace) ℕ
line_at value at [] = Err (line_number at)
line_at value at (line ∷ rest) =
    if length rest == 0 then Err (line_number at) else line_or_wrong at rest (value line)

-- a line that has to be there, and say something
unfoldable pub one_line : {A : Type 0} → (List ℕ → Option A) → LinesReading A
one_line value p = line_at value p.at p.left

abbrev pub also : {A : Type 0} → A → List A × List (List ℕ) → List A × List (List ℕ)
also x read = (x ∷ read.0, read.1)

abbrev pub while_some : {A : Type 0} → List (List ℕ) → Option A → (A → List A × List (List ℕ))
    → List A × List (List ℕ)
while_some here None more = ([], here)
while_some here (Some x) more = also x (more x)

-- the values of lines as far as they have one, and the parts behind them. Which value a line may
-- have depends on a state, which each value moves on
unfoldable pub lines_from : {S A : Type 0} → (S → List ℕ → Option A) → (S → A → S) → S
    → List (List ℕ) → List A × List (List ℕ)
lines_from value moved state [] = ([], [])
lines_from value moved state (line ∷ rest) =
    if length rest == 0 then ([], line ∷ rest)
    else while_some (line ∷ rest) (value state line)
    (λ x. lines_from value moved (moved state x) rest)

-- the values of several lines, and the place behind them
unfoldable pub many : {S A : Type 0} → (S → List ℕ → Option A) → (S → A → S) → S
    → LinesReading (List A)
many value moved state p =
    let read = lines_from value moved state p.left in
    Ok (read.0, record { at = p.at + length read.0; left = read.1 })

-- lines that don't depend on one another
abbrev pub lines_of : {A : Type 0} → (List ℕ → Option A) → LinesReading (List A)
lines_of value = many (λ (state : ℕ). value) (λ state x. state) 0

-- a line that may be missing
abbrev pub none_or : {A : Type 0} → LedgerPlace → Result (A × LedgerPlace) ℕ
    → Result (Option A × LedgerPlace) ℕ
none_or p (Ok read) = Ok (Some read.0, read.1)
none_or p (Err at) = Ok (None, p)

-- its value, or nothing read
unfoldable pub maybe_line : {A : Type 0} → (List ℕ → Option A) → LinesReading (Option A)
maybe_line value p = none_or p (one_line value p)

-- behind the last LF there is nothing
abbrev pub is_end : List (List ℕ) → Bool
is_end ([] ∷ []) = true
is_end _ = false

-- nothing more
unfoldable pub over : {A : Type 0} → A → LinesReading A
over x p = if is_end p.left then Ok (x, p) else Err (line_number p.at)

-- a whole ledger
unfoldable pub ledger : LinesReading LedgerAccount
ledger = do
  form ← one_line (said head)
  run ← one_line (said play)
  entries ← lines_of (said (entry form))
  refusals ← lines_of (said (refusal form))
  ticks ← many (λ n. said (tick n)) (λ n x. suc n) 0
  hands ← many (λ least. said (hand least)) (λ least end. end.hand + 1) 0
  song ← maybe_line (said (saved form))
  status ← one_line (said (end form (length ticks)))
  over (record {
    run = record run { status = status };
    entries = entries;
    refusals = refusals;
    ticks = ticks;
    hands = hands;
    saved = song;
  })

abbrev pub ledger_start : List ℕ → LedgerPlace
ledger_start bytes = record { at = 0; left = slice_split (λ b. b == 10) bytes }

-- what bytes say as a ledger, or the first line that can't be there; where a line is missing at the
-- end it is the one behind the last
unfoldable pub ledger_of : List ℕ → Result LedgerAccount ℕ
ledger_of bytes = read_value (ledger (ledger_start bytes))
