-- What a ledger says of a run, and which of it can be written.
use Rattle.std.specs.Prelude.{◌≡◌, ◌≢◌, ℕ, ◌+◌, ◌≤◌, ◌⊎◌, List, [], ◌∷◌, All, Option}
use Rattle.ft_types.specs.Edits.{IsGivable}
use Rattle.ft_types.specs.Journals.{JournalState}
use Rattle.ft_types.specs.declared.journal.Entry.{Entry}
use Rattle.ft_types.specs.declared.journal.Refusal.{Refusal}
use Rattle.ft_types.specs.declared.commit_fault.CommitFault.TheVariants as faults
use Rattle.ft_types.specs.declared.tick_report.TickReport.{TickReport}
use Rattle.ft_text.specs.declared.record.Run.{Run}
use Rattle.ft_text.specs.declared.record.HandEnd.{HandEnd}
use Rattle.ft_text.specs.declared.record.SavedLine.{SavedLine}

-- all that a ledger says: what was asked for and how it ended, what was committed and what was
-- refused, the ticks, the hands that ended early, and the song that was saved
pub record LedgerAccount : Type 0 where
  pub run : Run
  pub entries : List Entry
  pub refusals : List Refusal
  pub ticks : List TickReport
  pub hands : List HandEnd
  pub saved : Option SavedLine

abbrev pub ledger_account : Run → JournalState → List TickReport → List HandEnd → Option SavedLine
    → LedgerAccount
ledger_account run journal ticks hands saved = record {
  run = run;
  entries = journal.entries;
  refusals = journal.refusals;
  ticks = ticks;
  hands = hands;
  saved = saved;
}

-- a status that a ledger may end with
abbrev pub IsEndStatus : ℕ → Type 0
IsEndStatus status = (status ≡ 0) ⊎ (status ≡ 5) ⊎ (status ≡ 8) ⊎ (status ≡ 9) ⊎ (status ≡ 10)

-- each hand's number is above that of the one before it, and the first is at least this
abbrev pub Ascend : ℕ → List HandEnd → Type 0
Ascend least [] = Unit {0}
Ascend least (end ∷ ends) = (least ≤ end.hand) × Ascend (end.hand + 1) ends

-- a batch as hands give them: each paste has 1 to 256 frames
abbrev pub CanBeEntered : Entry → Type 0
CanBeEntered entry = All IsGivable entry.batch

-- the same, and running out of memory is never written
abbrev pub CanBeRefused : Refusal → Type 0
CanBeRefused refusal = All IsGivable refusal.batch × (refusal.cause ≢ faults.NoMemory)

abbrev pub HasHandCause : HandEnd → Type 0
HasHandCause end = (1 ≤ end.cause) × (end.cause ≤ 4)

-- an account that can be written
pub record IsTellable (account : LedgerAccount) : Type 0 where
  pub status : IsEndStatus account.run.status
  pub entries : All CanBeEntered account.entries
  pub refusals : All CanBeRefused account.refusals
  pub ascending : Ascend 0 account.hands
  pub causes : All HasHandCause account.hands
