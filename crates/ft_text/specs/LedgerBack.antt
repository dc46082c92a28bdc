-- What is written of an account is read again.
use Rattle.std.specs.Prelude.{◌≡◌, ℕ, ◌^◌, ◌<◌, ◌≤◌, List, All, Ok, IfSome, FitsSigned, length, ◌≢◌, None}
use Rattle.std.specs.Int.{w64}
use Rattle.ft_types.specs.declared.edit.Edit.{Edit}
use Rattle.ft_types.specs.EditParts.{EditHasRanges}
use Rattle.ft_types.specs.declared.journal.Entry.{Entry}
use Rattle.ft_types.specs.declared.journal.Refusal.{Refusal}
use Rattle.ft_types.specs.declared.edit_fault.EditFault.{EditFault}
use Rattle.ft_types.specs.declared.edit_fault.EditFault.TheVariants as causes
use Rattle.ft_types.specs.declared.commit_fault.CommitFault.{CommitFault}
use Rattle.ft_types.specs.declared.commit_fault.CommitFault.TheVariants as faults
use Rattle.ft_types.specs.declared.tick_report.TickReport.{TickReport}
use Rattle.ft_text.specs.declared.record.Run.{Run}
use Rattle.ft_text.specs.declared.record.HandEnd.{HandEnd}
use Rattle.ft_text.specs.declared.record.SavedLine.{SavedLine}
use Rattle.ft_lines.specs.ReadBack.{IsBatch}
use Rattle.ft_text.specs.Record.{LedgerAccount, IsTellable}
use Rattle.ft_text.specs.Ledger.{ledger_text}
use Rattle.ft_text.specs.LedgerReading.{ledger_of}

-- the numbers of each part are in the ranges of their types, and a batch has 1 to 16 edits
abbrev pub RunHasRanges : Run → Type 0
RunHasRanges run = (run.rate < 2 ^ 32) × (run.seconds < 2 ^ 32) × (run.segments < 2 ^ 16)
    × (run.channels < 2 ^ 8)

-- what the types of an entry say of it, but how many edits its batch has
abbrev pub EntryIsTyped : Entry → Type 0
EntryIsTyped entry = (entry.version < 2 ^ 32) × (entry.hand < 2 ^ 8) × (entry.seq < 2 ^ 32)
    × All EditHasRanges entry.batch

abbrev pub EntryHasRanges : Entry → Type 0
EntryHasRanges entry = (entry.version < 2 ^ 32) × (entry.hand < 2 ^ 8) × (entry.seq < 2 ^ 32)
    × IsBatch entry.batch

abbrev pub FaultHasRanges : EditFault → Type 0
FaultHasRanges (causes.NoPattern p) = p < 2 ^ 8
FaultHasRanges (causes.NoRow row rows) = (row < 2 ^ 32) × (rows < 2 ^ 16)
FaultHasRanges (causes.NoChannel ch) = ch < 2 ^ 16
FaultHasRanges (causes.NoOrder position) = position < 2 ^ 16
FaultHasRanges (causes.NoInstrument i) = i < 2 ^ 8
FaultHasRanges (causes.Range field found) = (field < 2 ^ 8) × FitsSigned w64 found
FaultHasRanges (causes.TooMany what count) = (what < 2 ^ 8) × (count < 2 ^ 32)
FaultHasRanges (causes.NoSample i s) = (i < 2 ^ 8) × (s < 2 ^ 8)
FaultHasRanges (causes.Cut from to frames) = (from < 2 ^ 32) × (to < 2 ^ 64) × (frames < 2 ^ 32)

abbrev pub CauseHasRanges : CommitFault → Type 0
CauseHasRanges (faults.Edit at fault) = (at < 2 ^ 8) × FaultHasRanges fault
CauseHasRanges (faults.Worn version) = version < 2 ^ 32
CauseHasRanges faults.NoMemory = Unit {0}
CauseHasRanges (faults.Full need free) = (need < 2 ^ 32) × (free < 2 ^ 32)

abbrev pub RefusalHasRanges : Refusal → Type 0
RefusalHasRanges refusal =
    (refusal.hand < 2 ^ 8) × (refusal.seq < 2 ^ 32) × IsBatch refusal.batch
    × CauseHasRanges refusal.cause

-- what the types of a refusal say of it, but how many edits its batch has
abbrev pub RefusalIsTyped : Refusal → Type 0
RefusalIsTyped refusal =
    (refusal.hand < 2 ^ 8) × (refusal.seq < 2 ^ 32) × All EditHasRanges refusal.batch
    × CauseHasRanges refusal.cause

abbrev pub TickHasRanges : TickReport → Type 0
TickHasRanges tick =
    (tick.version < 2 ^ 32) × (tick.order < 2 ^ 16) × (tick.row < 2 ^ 16) × (tick.tick < 2 ^ 16)
    × (tick.frames < 2 ^ 32)

abbrev pub HandHasRanges : HandEnd → Type 0
HandHasRanges end = (end.hand < 2 ^ 8) × (end.at < 2 ^ 32)

abbrev pub SavedHasRanges : SavedLine → Type 0
SavedHasRanges saved = (saved.version < 2 ^ 32) × (saved.bytes < 2 ^ 32)

pub record AccountHasRanges (account : LedgerAccount) : Type 0 where
  pub run : RunHasRanges account.run
  pub entries : All EntryHasRanges account.entries
  pub refusals : All RefusalHasRanges account.refusals
  pub ticks : All TickHasRanges account.ticks
  pub hands : All HandHasRanges account.hands
  pub saved : IfSome account.saved SavedHasRanges

-- each batch has 1 to 16 edits
abbrev pub IsBatchLength : List Edit → Type 0
IsBatchLength edits = (1 ≤ length edits) × (length edits ≤ 16)

pub record HasBatches (account : LedgerAccount) : Type 0 where
  pub entries : All (λ entry. IsBatchLength entry.batch) account.entries
  pub refusals : All (λ refusal. IsBatchLength refusal.batch) account.refusals

-- what was printed of an account says that account
abbrev pub IsLedgerReadBack : LedgerAccount → List ℕ → Type 0
IsLedgerReadBack account text = HasBatches account → ledger_of text ≡ Ok account

-- an edit's place in its batch is the first
abbrev pub IsFirst : CommitFault → Type 0
IsFirst (faults.Edit at fault) = at ≡ 0
IsFirst _ = Unit {0}

-- what form 1 can write: single edits, no saved song, and not the status that a failed save has
pub record IsOld (account : LedgerAccount) : Type 0 where
  pub entries : All (λ entry. length entry.batch ≡ 1) account.entries
  pub refusals : All
      (λ refusal. (length refusal.batch ≡ 1) × IsFirst refusal.cause) account.refusals
  pub saved : account.saved ≡ None
  pub status : account.run.status ≢ 10

-- the ledger of an account says that account
abbrev pub LedgersAreReadBack : Type 0
LedgersAreReadBack = (account : LedgerAccount) → IsTellable account → AccountHasRanges account
    → ledger_of (ledger_text 2 account) ≡ Ok account

-- and so does that of form 1, where there is one
abbrev pub OldLedgersAreReadBack : Type 0
OldLedgersAreReadBack =
    (account : LedgerAccount) → IsOld account → IsTellable account → AccountHasRanges account
    → ledger_of (ledger_text 1 account) ≡ Ok account

-- so different accounts have different ledgers
abbrev pub LedgersDiffer : Type 0
LedgersDiffer =
    (a b : LedgerAccount) → IsTellable a → AccountHasRanges a → IsTellable b → AccountHasRanges b
    → ledger_text 2 a ≡ ledger_text 2 b → a ≡ b
