-- What the calls that read a ledger answer, against how it is read.
use Rattle.std.specs.Prelude.{◌≡◌, ℕ, ◌==◌, List, [], ◌∷◌, ◌++◌, ◌+◌, length, nat_le, false, Option, Some, None, Result, Ok, Err, if◌then◌else◌}
use Rattle.std.specs.List.{slice_split}
use Rattle.ft_types.specs.declared.edit.Edit.{Edit}
use Rattle.ft_lines.specs.Sequence.{ReadsBy}
use Rattle.ft_text.specs.declared.record.LedgerFault.{LedgerFault}
use Rattle.ft_text.specs.declared.record.LedgerFault.TheVariants.{Line, NoMemory}
use Rattle.ft_text.specs.declared.record.Run.{Run}
use Rattle.ft_text.specs.LedgerWords.{said, head, play}
use Rattle.ft_text.specs.LedgerReading.{LedgerPlace, one_line}

-- the parts that are left of bytes, where something is left
abbrev pub parts_left : ℕ → Option (List ℕ) → List (List ℕ)
parts_left by None = []
parts_left by (Some bytes) = slice_split (λ b. b == by) bytes

-- what was taken from words is what this reading gives, and these are left behind it
abbrev pub Takes : {X A : Type 0} → (X → A) → Option X → List (List ℕ) → Option (A × List (List ℕ))
    → Type 0
Takes view None rest taken = taken ≡ None
Takes view (Some x) rest taken = taken ≡ Some (view x, rest)

-- edits behind others
abbrev pub behind : List Edit → Option (List Edit) → Option (List Edit)
behind first None = None
behind first (Some edits) = Some (first ++ edits)

-- edits that are few enough for a batch
abbrev pub few_edits : Option (List Edit) → Option (List Edit)
few_edits None = None
few_edits (Some edits) = if nat_le (length edits) 16 then Some edits else None

-- the line at a place, and the place behind it
pub record IsAhead (here : LedgerPlace) (line : List ℕ) (next : LedgerPlace) : Type 0 where
  pub parts : here.left ≡ line ∷ next.left
  pub count : next.at ≡ here.at + 1
  pub more : (length next.left == 0) ≡ false

-- no line is left, but a last part
abbrev pub IsLast : LedgerPlace → Type 0
IsLast here = (last : List ℕ) × (here.left ≡ last ∷ [])

-- the fault of a reading; running out of memory is free
abbrev pub LedgerFails : {A : Type 0} → LedgerFault → Result A ℕ → Type 0
LedgerFails NoMemory read = Unit {0}
LedgerFails (Line line) read = read ≡ Err line

-- what was answered at a place is this reading, which goes on at the next place
abbrev pub LedgerReads : {X A : Type 0} → (X → A) → Result X LedgerFault → LedgerPlace
    → Result (A × LedgerPlace) ℕ
    → Type 0
LedgerReads view answer next read = ReadsBy LedgerFails view answer next read

-- out of memory is answered only of bytes whose first two lines are right
abbrev pub HasFront : LedgerFault → LedgerPlace → Type 0
HasFront (Line n) p = Unit {0}
HasFront NoMemory p = (form : ℕ) × (q : LedgerPlace) × (run : Run) × (r : LedgerPlace)
    × (one_line (said head) p ≡ Ok (form, q)) × (one_line (said play) q ≡ Ok (run, r))
