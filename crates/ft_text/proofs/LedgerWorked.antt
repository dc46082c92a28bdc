-- Ledgers, computed.
use Rattle.std.proofs.Common.{◌≡◌, ℕ, List, [], ◌∷◌, codes, Some, Ok, Err, refl}
use Rattle.std.specs.Fmt.{digits}
use Rattle.ft_types.specs.declared.edit.Edit.TheVariants as edits
use Rattle.ft_types.specs.declared.edit_fault.EditFault.TheVariants as causes
use Rattle.ft_types.specs.declared.commit_fault.CommitFault.TheVariants as faults
use Rattle.ft_lines.specs.Reading.{spaces, word_length, next_word}
use Rattle.ft_lines.specs.Edits.{edit_reading, readings, u32, kind_reading}
use Rattle.ft_lines.specs.Lines.{beginning, timed_reading, time_reading, edits_reading, others_reading, another_reading}
use Rattle.ft_lines.specs.Texts.{batch_text, edit_text}
use Rattle.ft_text.specs.Record.{LedgerAccount}
use Rattle.ft_text.specs.Ledger.{joined_lines, ledger_lines, ledger_text}
use Rattle.ft_text.specs.LedgerWords.{word, batch, batch_of, fault, cause}
use Rattle.ft_text.specs.LedgerReading.{one_line, lines_from, many, maybe_line, over, ledger, ledger_of}

abbrev account : LedgerAccount
account = record {
  run = record { rate = 44100; seconds = 60; segments = 16384; channels = 8; status = 9 };
  entries = record { version = 1; hand = 0; seq = 1; batch = edits.Tempo 3 ∷ edits.Bpm 140 ∷ [] } ∷ [];
  refusals = record { hand = 0; seq = 2; batch = edits.Cell 0 64 0 49 1 0 0 0 ∷ []; cause = faults.Edit 0 (causes.NoRow 64 64) }
      ∷ record { hand = 1; seq = 1; batch = edits.Newins ∷ []; cause = faults.Full 7 6 } ∷ [];
  ticks = record { version = 0; order = 0; row = 0; tick = 0; frames = 167 }
      ∷ record { version = 1; order = 0; row = 0; tick = 1; frames = 168 } ∷ [];
  hands = record { hand = 0; cause = 1; at = 3 } ∷ record { hand = 2; cause = 4; at = 5 } ∷ [];
  saved = Some (record { version = 1; bytes = 782 });
}

-- its lines
abbrev first : List ℕ
first = codes "xmstudio ledger 2"

abbrev play : List ℕ
play = codes "play 44100 60 16384 8"

abbrev made : List ℕ
made = codes "c 1 0 1 tempo 3 ; bpm 140"

abbrev no_row : List ℕ
no_row = codes "r 0 2 edit 0 2 64 64 cell 0 64 0 49 1 0 0 0"

abbrev full : List ℕ
full = codes "r 1 1 full 7 6 newins"

abbrev tick_0 : List ℕ
tick_0 = codes "t 0 0 0 0 0 167"

abbrev tick_1 : List ℕ
tick_1 = codes "t 1 1 0 0 1 168"

abbrev hand_0 : List ℕ
hand_0 = codes "h 0 malformed 3"

abbrev hand_2 : List ℕ
hand_2 = codes "h 2 memory 5"

abbrev song : List ℕ
song = codes "s 1 782"

abbrev last : List ℕ
last = codes "end 9 2"

printed : ledger_text 2 account ≡ joined_lines (first ∷ play ∷ made ∷ no_row ∷ full ∷ tick_0 ∷ tick_1 ∷ hand_0 ∷ hand_2 ∷ song ∷ last ∷ [])
unfolding ledger_of ledger over maybe_line many lines_from one_line word batch batch_of fault cause ledger_text ledger_lines
    batch_text edit_text beginning timed_reading time_reading edits_reading others_reading another_reading edit_reading readings
    kind_reading u32 next_word spaces word_length digits
printed = refl

read : ledger_of (joined_lines (first ∷ play ∷ made ∷ no_row ∷ full ∷ tick_0 ∷ tick_1 ∷ hand_0 ∷ hand_2 ∷ song ∷ last ∷ []))
    ≡ Ok account
unfolding ledger_of ledger over maybe_line many lines_from one_line word batch batch_of fault cause ledger_text ledger_lines
    batch_text edit_text beginning timed_reading time_reading edits_reading others_reading another_reading edit_reading readings
    kind_reading u32 next_word spaces word_length digits
read = refl

no_play : ledger_of (joined_lines (first ∷ made ∷ no_row ∷ full ∷ tick_0 ∷ tick_1 ∷ hand_0 ∷ hand_2 ∷ song ∷ last ∷ []))
    ≡ Err 2
unfolding ledger_of ledger over maybe_line many lines_from one_line word batch batch_of fault cause ledger_text ledger_lines
    batch_text edit_text beginning timed_reading time_reading edits_reading others_reading another_reading edit_reading readings
    kind_reading u32 next_word spaces word_length digits
no_play = refl

two_spaces : ledger_of
    (joined_lines (first ∷ codes "play 44100  60 16384 8" ∷ made ∷ no_row ∷ full ∷ tick_0 ∷ tick_1 ∷ hand_0 ∷ hand_2 ∷ song ∷ last ∷ []))
    ≡ Err 2
unfolding ledger_of ledger over maybe_line many lines_from one_line word batch batch_of fault cause ledger_text ledger_lines
    batch_text edit_text beginning timed_reading time_reading edits_reading others_reading another_reading edit_reading readings
    kind_reading u32 next_word spaces word_length digits
two_spaces = refl

form_1_has_no_place : ledger_of
    (joined_lines (codes "xmstudio ledger 1" ∷ play ∷ made ∷ no_row ∷ full ∷ tick_0 ∷ tick_1 ∷ hand_0 ∷ hand_2 ∷ song ∷ last ∷ []))
    ≡ Err 3
unfolding ledger_of ledger over maybe_line many lines_from one_line word batch batch_of fault cause ledger_text ledger_lines
    batch_text edit_text beginning timed_reading time_reading edits_reading others_reading another_reading edit_reading readings
    kind_reading u32 next_word spaces word_length digits
form_1_has_no_place = refl

trailing_space : ledger_of
    (joined_lines (first ∷ play ∷ codes "c 1 0 1 tempo 3 " ∷ no_row ∷ full ∷ tick_0 ∷ tick_1 ∷ hand_0 ∷ hand_2 ∷ song ∷ last ∷ []))
    ≡ Err 3
unfolding ledger_of ledger over maybe_line many lines_from one_line word batch batch_of fault cause ledger_text ledger_lines
    batch_text edit_text beginning timed_reading time_reading edits_reading others_reading another_reading edit_reading readings
    kind_reading u32 next_word spaces word_length digits
trailing_space = refl

a_time : ledger_of
    (joined_lines (first ∷ play ∷ codes "c 1 0 1 at 1 tempo 3" ∷ no_row ∷ full ∷ tick_0 ∷ tick_1 ∷ hand_0 ∷ hand_2 ∷ song ∷ last ∷ []))
    ≡ Err 3
unfolding ledger_of ledger over maybe_line many lines_from one_line word batch batch_of fault cause ledger_text ledger_lines
    batch_text edit_text beginning timed_reading time_reading edits_reading others_reading another_reading edit_reading readings
    kind_reading u32 next_word spaces word_length digits
a_time = refl

tick_missing : ledger_of (joined_lines (first ∷ play ∷ made ∷ no_row ∷ full ∷ tick_1 ∷ hand_0 ∷ hand_2 ∷ song ∷ last ∷ []))
    ≡ Err 6
unfolding ledger_of ledger over maybe_line many lines_from one_line word batch batch_of fault cause ledger_text ledger_lines
    batch_text edit_text beginning timed_reading time_reading edits_reading others_reading another_reading edit_reading readings
    kind_reading u32 next_word spaces word_length digits
tick_missing = refl

hands_descend : ledger_of
    (joined_lines (first ∷ play ∷ made ∷ no_row ∷ full ∷ tick_0 ∷ tick_1 ∷ codes "h 2 failed 3" ∷ hand_2 ∷ song ∷ last ∷ []))
    ≡ Err 9
unfolding ledger_of ledger over maybe_line many lines_from one_line word batch batch_of fault cause ledger_text ledger_lines
    batch_text edit_text beginning timed_reading time_reading edits_reading others_reading another_reading edit_reading readings
    kind_reading u32 next_word spaces word_length digits
hands_descend = refl

ticks_counted : ledger_of (joined_lines
    (first ∷ play ∷ made ∷ no_row ∷ full ∷ tick_0 ∷ tick_1 ∷ hand_0 ∷ hand_2 ∷ song ∷ codes "end 9 3" ∷ []))
    ≡ Err 11
unfolding ledger_of ledger over maybe_line many lines_from one_line word batch batch_of fault cause ledger_text ledger_lines
    batch_text edit_text beginning timed_reading time_reading edits_reading others_reading another_reading edit_reading readings
    kind_reading u32 next_word spaces word_length digits
ticks_counted = refl

no_such_status : ledger_of (joined_lines
    (first ∷ play ∷ made ∷ no_row ∷ full ∷ tick_0 ∷ tick_1 ∷ hand_0 ∷ hand_2 ∷ song ∷ codes "end 6 2" ∷ []))
    ≡ Err 11
unfolding ledger_of ledger over maybe_line many lines_from one_line word batch batch_of fault cause ledger_text ledger_lines
    batch_text edit_text beginning timed_reading time_reading edits_reading others_reading another_reading edit_reading readings
    kind_reading u32 next_word spaces word_length digits
no_such_status = refl

no_end : ledger_of (joined_lines (first ∷ play ∷ made ∷ no_row ∷ full ∷ tick_0 ∷ tick_1 ∷ hand_0 ∷ hand_2 ∷ song ∷ []))
    ≡ Err 11
unfolding ledger_of ledger over maybe_line many lines_from one_line word batch batch_of fault cause ledger_text ledger_lines
    batch_text edit_text beginning timed_reading time_reading edits_reading others_reading another_reading edit_reading readings
    kind_reading u32 next_word spaces word_length digits
no_end = refl

another_line : ledger_of (joined_lines (first ∷ play ∷ made ∷ no_row ∷ full ∷ tick_0 ∷ tick_1 ∷ hand_0 ∷ hand_2 ∷ song ∷ last ∷ last ∷ []))
    ≡ Err 12
unfolding ledger_of ledger over maybe_line many lines_from one_line word batch batch_of fault cause ledger_text ledger_lines
    batch_text edit_text beginning timed_reading time_reading edits_reading others_reading another_reading edit_reading readings
    kind_reading u32 next_word spaces word_length digits
another_line = refl
