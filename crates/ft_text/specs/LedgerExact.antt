-- What is read as a ledger is one, and what isn't is none.
use Rattle.std.specs.Prelude.{◌≡◌, ◌≢◌, ◌⊎◌, ℕ, ◌+◌, ◌<◌, List, ◌++◌, length, All, Ok, Err}
use Rattle.ft_text.specs.Record.{LedgerAccount, IsTellable}
use Rattle.ft_text.specs.Ledger.{joined_lines, ledger_text}
use Rattle.ft_text.specs.LedgerReading.{ledger_of}
use Rattle.ft_text.specs.LedgerBack.{AccountHasRanges, IsOld}

-- the ledger of an account in form 2, or in form 1 where that can write it
abbrev pub IsLedgerOf : List ℕ → LedgerAccount → Type 0
IsLedgerOf bytes account = (bytes ≡ ledger_text 2 account)
    ⊎ (IsOld account × (bytes ≡ ledger_text 1 account))

-- nothing else is read
abbrev pub ReadIsWritten : Type 0
ReadIsWritten = (bytes : List ℕ) (account : LedgerAccount) → ledger_of bytes ≡ Ok account
    → IsLedgerOf bytes account

-- and it can be written: its numbers are in the ranges of their types, its batches have 1 to 16
-- edits, and its hands ascend
abbrev pub ReadCanBeTold : Type 0
ReadCanBeTold = (bytes : List ℕ) (account : LedgerAccount) → ledger_of bytes ≡ Ok account
    → IsTellable account × AccountHasRanges account

-- lines without their LFs
abbrev pub AreLines : List (List ℕ) → Type 0
AreLines lines = All (λ line. All (λ b. b ≢ 10) line) lines

-- where the last of that many lines can't be there, nothing that follows changes it
abbrev pub WrongLineSettles : Type 0
WrongLineSettles = (lines : List (List ℕ)) (rest other : List ℕ) → AreLines lines
    → length lines < 4294967295 → ledger_of (joined_lines lines ++ rest) ≡ Err (length lines)
    → ledger_of (joined_lines lines ++ other) ≡ Err (length lines)

-- so no ledger begins with these lines
abbrev pub NoneGoesOn : Type 0
NoneGoesOn = (lines : List (List ℕ)) (rest : List ℕ) → AreLines lines
    → length lines < 4294967295 → ledger_of (joined_lines lines ++ rest) ≡ Err (length lines)
    → (account : LedgerAccount) (other : List ℕ) → IsTellable account → AccountHasRanges account
    → (ledger_text 2 account ≢ joined_lines lines ++ other)
    × (IsOld account → ledger_text 1 account ≢ joined_lines lines ++ other)

-- and bytes with a wrong line are no ledger
abbrev pub RefusedIsNone : Type 0
RefusedIsNone = (bytes : List ℕ) (line : ℕ) → ledger_of bytes ≡ Err line
    → (account : LedgerAccount) → IsTellable account → AccountHasRanges account
    → (ledger_text 2 account ≢ bytes) × (IsOld account → ledger_text 1 account ≢ bytes)

-- lines, and what follows them, in bytes of which the next line is wrong; and what could follow
pub record GoesOn (bytes : List ℕ) (line : ℕ) : Type 0 where
  pub lines : List (List ℕ)
  pub rest : List ℕ
  pub other : List ℕ
  pub account : LedgerAccount
  pub count : length lines + 1 ≡ line
  pub are : AreLines lines
  pub front : bytes ≡ joined_lines lines ++ rest
  pub whole : ledger_of (joined_lines lines ++ other) ≡ Ok account

-- no line before it is wrong: from those some ledger does go on
abbrev pub WrongLineIsFirst : Type 0
WrongLineIsFirst = (bytes : List ℕ) (line : ℕ) → ledger_of bytes ≡ Err line → line < 4294967295
    → GoesOn bytes line
