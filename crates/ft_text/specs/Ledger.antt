-- The text of a ledger, line by line. An account has the text of form 2, and one that form 1 can
-- write has a text of that form too.
use Rattle.std.specs.Prelude.{ℕ, suc, ◌==◌, List, [], ◌∷◌, ◌++◌, length, map, codes, decimal, Option, Some, None, if◌then◌else◌}
use Rattle.std.specs.List.{flat_map}
use Rattle.std.specs.Fmt.{signed_decimal}
use Rattle.ft_types.specs.declared.journal.Entry.{Entry}
use Rattle.ft_types.specs.declared.journal.Refusal.{Refusal}
use Rattle.ft_types.specs.declared.edit_fault.EditFault.{EditFault}
use Rattle.ft_types.specs.declared.edit_fault.EditFault.TheVariants as causes
use Rattle.ft_types.specs.declared.commit_fault.CommitFault.{CommitFault}
use Rattle.ft_types.specs.declared.commit_fault.CommitFault.TheVariants as faults
use Rattle.ft_types.specs.declared.tick_report.TickReport.{TickReport}
use Rattle.ft_text.specs.declared.record.Run.{Run}
use Rattle.ft_text.specs.declared.record.HandEnd.{HandEnd}
use Rattle.ft_text.specs.declared.record.SavedLine.{SavedLine}
use Rattle.ft_lines.specs.Words.{numbers}
use Rattle.ft_lines.specs.Texts.{text_of_words, batch_text}
use Rattle.ft_text.specs.Record.{LedgerAccount}

-- which form it is
abbrev pub head_line : ℕ → List ℕ
head_line form = text_of_words (codes "xmstudio" ∷ codes "ledger" ∷ decimal form ∷ [])

-- what was asked for: frames a second, seconds, segments; and the channels of the song
abbrev pub play_line : Run → List ℕ
play_line run = text_of_words
    (codes "play" ∷ numbers (run.rate ∷ run.seconds ∷ run.segments ∷ run.channels ∷ []))

-- a batch that was committed: the version that it made, its hand, which of the hand's it is,
-- its edits
abbrev pub entry_line : Entry → List ℕ
entry_line entry =
    text_of_words (codes "c" ∷ numbers (entry.version ∷ entry.hand ∷ entry.seq ∷ [])) ++
    (32 ∷ batch_text entry.batch)

-- the number of a fault, and its own numbers
abbrev pub fault_words : EditFault → List (List ℕ)
fault_words (causes.NoPattern p) = numbers (1 ∷ p ∷ [])
fault_words (causes.NoRow row rows) = numbers (2 ∷ row ∷ rows ∷ [])
fault_words (causes.NoChannel ch) = numbers (3 ∷ ch ∷ [])
fault_words (causes.NoOrder position) = numbers (4 ∷ position ∷ [])
fault_words (causes.NoInstrument i) = numbers (5 ∷ i ∷ [])
fault_words (causes.Range field found) = numbers (6 ∷ field ∷ []) ++ (signed_decimal found ∷ [])
fault_words (causes.TooMany what count) = numbers (7 ∷ what ∷ count ∷ [])
fault_words (causes.NoSample i s) = numbers (8 ∷ i ∷ s ∷ [])
fault_words (causes.Cut from to frames) = numbers (9 ∷ from ∷ to ∷ frames ∷ [])

-- the place of the edit in its batch, which form 1 leaves out
abbrev pub place_words : ℕ → ℕ → List (List ℕ)
place_words form at = if form == 1 then [] else numbers (at ∷ [])

-- why a batch was refused: an edit's fault, no version after this one, or too few free segments;
-- running out of memory is never written
abbrev pub cause_words : ℕ → CommitFault → List (List ℕ)
cause_words form (faults.Edit at fault) = (codes "edit" ∷ place_words form at) ++ fault_words fault
cause_words form (faults.Worn version) = codes "worn" ∷ numbers (version ∷ [])
cause_words form faults.NoMemory = []
cause_words form (faults.Full need free) = codes "full" ∷ numbers (need ∷ free ∷ [])

-- a batch that was refused: its hand, which of the hand's batches it is, why, its edits
abbrev pub refusal_line : ℕ → Refusal → List ℕ
refusal_line form refusal =
    text_of_words
    ((codes "r" ∷ numbers (refusal.hand ∷ refusal.seq ∷ [])) ++ cause_words form refusal.cause)
    ++ (32 ∷ batch_text refusal.batch)

-- a tick: its number, its version, its place in the song, its frames
abbrev pub tick_line : ℕ → TickReport → List ℕ
tick_line n tick =
    text_of_words
    (codes "t" ∷ numbers
    (n ∷ tick.version ∷ tick.order ∷ tick.row ∷ tick.tick ∷ tick.frames ∷ []))

-- the ticks, numbered from n
abbrev pub tick_lines : ℕ → List TickReport → List (List ℕ)
tick_lines n [] = []
tick_lines n (tick ∷ ticks) = tick_line n tick ∷ tick_lines (suc n) ticks

-- how a hand ended early
abbrev pub hand_cause : ℕ → List ℕ
hand_cause cause =
    if cause == 1 then codes "malformed"
    else if cause == 2 then codes "failed"
    else if cause == 3 then codes "limit"
    else codes "memory"

-- a hand that ended early, and its line or how many batches it gave
abbrev pub hand_line : HandEnd → List ℕ
hand_line end = text_of_words
    (codes "h" ∷ decimal end.hand ∷ hand_cause end.cause ∷ decimal end.at ∷ [])

-- the song that was saved: its version and how many bytes it has
abbrev pub saved_line : SavedLine → List ℕ
saved_line saved = text_of_words (codes "s" ∷ numbers (saved.version ∷ saved.bytes ∷ []))

abbrev pub saved_lines : Option SavedLine → List (List ℕ)
saved_lines None = []
saved_lines (Some saved) = saved_line saved ∷ []

-- how the run ended, and how many ticks it played
abbrev pub end_line : ℕ → ℕ → List ℕ
end_line status ticks = text_of_words (codes "end" ∷ numbers (status ∷ ticks ∷ []))

-- all lines of an account, in order
unfoldable pub ledger_lines : ℕ → LedgerAccount → List (List ℕ)
ledger_lines form account =
    (head_line form ∷ play_line account.run ∷ [])
    ++ map entry_line account.entries
    ++ map (refusal_line form) account.refusals
    ++ tick_lines 0 account.ticks
    ++ map hand_line account.hands
    ++ saved_lines account.saved
    ++ (end_line account.run.status (length account.ticks) ∷ [])

-- lines, each with its LF
abbrev pub ended : List ℕ → List ℕ
ended line = line ++ 10 ∷ []

abbrev pub joined_lines : List (List ℕ) → List ℕ
joined_lines lines = flat_map ended lines

-- the ledger of an account
unfoldable pub ledger_text : ℕ → LedgerAccount → List ℕ
ledger_text form account = joined_lines (ledger_lines form account)
