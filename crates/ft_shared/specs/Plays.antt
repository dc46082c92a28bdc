-- What each kind of step tells the seat that makes it: of the step, the seat before, the number
-- found and the seat after.
use Rattle.std.specs.Prelude.{◌≡◌, ◌≢◌, ◌⊎◌, ◌↔◌, IsSome, ℕ, ◌+◌, ◌*◌, ◌<◌, ◌≤◌, true, IsNone, List, [], ◌∷◌, length, All}
use Rattle.atomic_table.specs.Table.{Step, Allows}
use Rattle.atomic_table.specs.Seated.{TableId}
use Rattle.ft_shared.specs.declared.law.Opening.{Opening}
use Rattle.ft_shared.specs.declared.law.Hold.{Hold}
use Rattle.ft_shared.specs.declared.law.View.{View}
use Rattle.ft_shared.specs.declared.law.View.TheVariants.{Spent, Reader, Writer, Told}
use Rattle.ft_segments.specs.Packing.{word_at}
use Rattle.ft_shared.specs.Layout.{current_at, leavers_at, pin_at, segment_at, version_in, slot_in, root_in, count_in}
use Rattle.ft_shared.specs.Counts.{sum_below, pin_of, pin_word}
use Rattle.ft_shared.specs.History.{placed_at, HasVersion, Agrees, AreSound}
use Rattle.ft_shared.specs.Account.{hold_of, account_of, slot_at, next_slot, is_free, answer_of, AreAllSettled, IsHeldSlot, IsBorne, IsSettledReader, new_notes, after_note_made, after_join, after_learning, after_resume, after_begin, after_scan, after_pin_scan, after_read, after_fill, after_clear, after_publish}
use Rattle.ft_shared.specs.Segments.{KeepsHeld}
use Rattle.ft_shared.specs.Register.{SeatView, RegisterRule, marks}
use Rattle.ft_shared.specs.Pass.{note_look, note_take, note_leave, note_word, note_seen, note_heard, pin_from, note_pin, note_unpin, note_pinned_word}

-- what a kind of step says of itself, the seat before, the number found and the seat after
abbrev pub StepKind : Type 1
StepKind = Step (Unit {0}) → SeatView → ℕ → SeatView → Type 0

-- A seat of the table may step on a word, which becomes `change` of what it was: the rule stays
-- kept, and the seat can be told this
abbrev pub MayStep : Opening → TableId → TableId → ℕ → SeatView → ℕ → (ℕ → ℕ)
    → (ℕ → SeatView → Type 0) → Type 0
MayStep key table home seat view word change told =
    (home ≡ table) × (word < table.words)
    × Allows (RegisterRule key) table.slots seat view word change told

-- ---- a reader's steps

abbrev pub after_look : Hold → ℕ → Hold
after_look hold word = record hold { notes = note_look hold.notes (version_in word) }

abbrev pub after_take : Hold → ℕ → Hold
after_take hold word = record hold {
  notes = note_take hold.notes (record { version = version_in word; root = root_in word });
  slot = slot_in word;
}

abbrev pub after_leave : Hold → Hold
after_leave hold = record hold { notes = note_leave hold.notes hold.slot }

-- what it found in CURRENT is no older than what the pass had seen
abbrev pub IsLook : StepKind
IsLook step before found after =
    (after ≡ (Reader (after_look (hold_of before.0) found), before.1))
    × ((hold_of before.0).notes.seen ≤ version_in found)
    × (step.word ≡ current_at)

-- the same, and the slot is one of the register
abbrev pub IsTake : StepKind
IsTake step before found after =
    (after ≡ (Reader (after_take (hold_of before.0) found), before.1))
    × ((hold_of before.0).notes.seen ≤ version_in found)
    × (slot_in found < (hold_of before.0).notes.sizes.readers + 2)
    × (step.word ≡ current_at)

abbrev pub IsLeave : StepKind
IsLeave step before found after =
    (after ≡ (Reader (after_leave (hold_of before.0)), before.1))
    × (step.word ≡ leavers_at (hold_of before.0).slot)

abbrev pub after_word : Hold → ℕ → ℕ → ℕ → Hold
after_word hold segment at word = record hold { notes = note_word hold.notes segment at word }

abbrev pub after_pin : Hold → ℕ → ℕ → Hold
after_pin hold channel root = record hold { notes = note_pin hold.notes channel root }

abbrev pub after_unpin : Hold → ℕ → Hold
after_unpin hold channel = record hold { notes = note_unpin hold.notes channel }

abbrev pub after_pinned_word : Hold → ℕ → ℕ → ℕ → ℕ → Hold
after_pinned_word hold channel segment at word =
    record hold { notes = note_pinned_word hold.notes channel segment at word }

abbrev pub IsWordRead : StepKind
IsWordRead step before found after = (segment at : ℕ) → at < 256
    → step.word ≡ segment_at (hold_of before.0).notes.sizes segment at
    → after ≡ (Reader (after_word (hold_of before.0) segment at found), before.1)

-- the pin word of a channel becomes the root + 1, and the pass has that pin
abbrev pub IsPin : StepKind
IsPin step before found after = (channel root : ℕ)
    → channel < (hold_of before.0).notes.sizes.channels
    → step.word ≡ pin_at (hold_of before.0).notes.sizes (hold_of before.0).notes.number channel
    → step.first ≡ root + 1
    → (after ≡ (Reader (after_pin (hold_of before.0) channel root), before.1))
    × (pin_of (note_pin (hold_of before.0).notes channel root) channel
    ≡ pin_from (hold_of before.0).notes.held root)

-- the pin word of a channel becomes 0
abbrev pub IsUnpin : StepKind
IsUnpin step before found after = (channel : ℕ)
    → step.word ≡ pin_at (hold_of before.0).notes.sizes (hold_of before.0).notes.number channel
    → after ≡ (Reader (after_unpin (hold_of before.0) channel), before.1)

-- a word is read by the pin of this channel
abbrev pub IsPinnedRead : ℕ → StepKind
IsPinnedRead channel step before found after = (segment at : ℕ) → at < 256
    → step.word ≡ segment_at (hold_of before.0).notes.sizes segment at
    → after ≡ (Reader (after_pinned_word (hold_of before.0) channel segment at found), before.1)

-- ---- the writer's steps

-- nothing that is known to be held was written since, the current slot bears the current version,
-- and the pool has 256 words for each segment
abbrev pub IsScanBegin : StepKind
IsScanBegin step before found after =
    (after ≡ (Writer (after_begin (account_of before.0)), before.1))
    × (step.word ≡ current_at)
    × KeepsHeld (account_of before.0)
    × ((slot_at (account_of before.0) (account_of before.0).slot).version
    ≡ (account_of before.0).version)
    × (length (account_of before.0).pool ≡ 256 * (account_of before.0).sizes.segments)

-- the slot's version is in the history, a slot that was found free before is found free again, and
-- a whole scan finds at most as many slots held as there are readers; the versions of settled
-- passes are those of their slots, and while all are settled a slot is answered that is current or
-- held; nothing that is known to be held then was written since
abbrev pub IsSlotScan : StepKind
IsSlotScan step before found after =
    (after ≡ (Writer (after_scan (account_of before.0) found), before.1))
    × ((slot_at (account_of before.0) (next_slot (account_of before.0))).free ≡ true
    → is_free (account_of before.0) (next_slot (account_of before.0)) found ≡ true)
    × (next_slot (account_of before.0) + 1 ≡ (account_of before.0).sizes.readers + 2
    → sum_below (marks (after_scan (account_of before.0) found))
    ((account_of before.0).sizes.readers + 2)
    ≤ (account_of before.0).sizes.readers)
    × HasVersion (account_of before.0).history
    (slot_at (account_of before.0) (next_slot (account_of before.0))).version
    × (step.word ≡ leavers_at (next_slot (account_of before.0)))
    × All (IsBorne (account_of before.0)) (account_of before.0).settled
    × (AreAllSettled (account_of before.0)
    → IsSome (answer_of (account_of before.0) (next_slot (account_of before.0)) found)
    ↔ ((next_slot (account_of before.0) ≡ (account_of before.0).slot)
    ⊎ IsHeldSlot (account_of before.0) (next_slot (account_of before.0))))
    × KeepsHeld (after_scan (account_of before.0) found)

-- the slot is not the current one
abbrev pub IsClear : StepKind
IsClear step before found after = (slot : ℕ) → step.word ≡ leavers_at slot
    → (after ≡ (Writer (after_clear (account_of before.0) slot), before.1))
    × (slot ≢ (account_of before.0).slot)

-- the count that was found is at most the readers, and no version of the history had the next
-- number
abbrev pub IsPublish : StepKind
IsPublish step before found after =
    (after ≡ (
      Writer (after_publish (account_of before.0) (slot_in step.first)
          (root_in step.first) (count_in found)),
      before.1,
    ))
    × (count_in found ≤ (account_of before.0).sizes.readers)
    × IsNone (placed_at (account_of before.0).history ((account_of before.0).version + 1))
    × (step.word ≡ current_at)

-- the word that was found is 0, or a root segment + 1, and that of the reader's pin where the
-- reader is settled
abbrev pub IsPinScan : StepKind
IsPinScan step before found after = (reader channel : ℕ)
    → channel < (account_of before.0).sizes.channels
    → step.word ≡ pin_at (account_of before.0).sizes reader channel
    → (after ≡ (Writer (after_pin_scan (account_of before.0) reader channel found), before.1))
    × (found ≤ 65536)
    × ((hold : Hold) → IsSettledReader (account_of before.0) reader hold
    → found ≡ pin_word (pin_of hold.notes channel))
    × (AreAllSettled (account_of before.0)
    → (hold : Hold) × IsSettledReader (account_of before.0) reader hold)

-- the word that was found is the one last written there
abbrev pub IsPoolRead : StepKind
IsPoolRead step before found after = (segment at : ℕ) → at < 256
    → step.word ≡ segment_at (account_of before.0).sizes segment at
    → (after ≡ (Writer (after_read (account_of before.0) segment at), before.1))
    × (found ≡ word_at (account_of before.0).pool segment at)

abbrev pub IsFill : StepKind
IsFill step before found after = (segment at : ℕ) → at < 256
    → step.word ≡ segment_at (account_of before.0).sizes segment at
    → after ≡ (Writer (after_fill (account_of before.0) segment at step.first), before.1)

-- it learns that its history is sound, and agrees with what each settled pass has noted; of these
-- there are at most eight; nothing that is known to be held was written since
abbrev pub IsLearning : StepKind
IsLearning step before found after =
    (after ≡ (Writer (after_learning (account_of before.0)), before.1))
    × (version_in found ≡ (account_of before.0).version)
    × All (λ hold. Agrees (account_of before.0).history hold.notes)
    (account_of before.0).settled
    × (length (account_of before.0).settled ≤ 8)
    × (step.word ≡ current_at)
    × AreSound (account_of before.0).sizes.segments (account_of before.0).history
    × KeepsHeld (account_of before.0)

-- ---- a seat for a reader

-- one more reader's pass is made
abbrev pub after_pass_given : View → View
after_pass_given (Writer account) = Writer (record account { given = account.given + 1 })
after_pass_given view = view

abbrev pub given_pass : View → View
given_pass (Writer account) =
    Reader (record { notes = new_notes account.sizes account.given; slot = 0 })
given_pass view = Spent

-- ---- notes

-- the writer's seat gives a note of the current version a seat
abbrev pub after_making : View → View
after_making (Writer account) = Writer (after_note_made account)
after_making view = view

abbrev pub made_note : View → View
made_note (Writer account) =
    Told (record { sizes = account.sizes; version = account.version })
made_note view = Spent

-- a reader's seat takes in that of a note
abbrev pub after_hear : Hold → ℕ → Hold
after_hear hold version = record hold { notes = note_heard hold.notes version }

abbrev pub heard : View → View → View
heard (Reader hold) (Told told) = Reader (after_hear hold told.version)
heard view note = view

-- ---- settled passes

-- the writer's seat takes in that of a reader
abbrev pub joined : View → View → View
joined (Writer account) (Reader hold) = Writer (after_join account hold)
joined view pass = view

-- the writer's seat gives back that which it took in last
abbrev pub after_giving_back : View → View
after_giving_back (Writer account) = Writer (after_resume account)
after_giving_back view = view

abbrev pub resumed_hold : Hold → ℕ → Hold
resumed_hold hold version = record hold { notes = note_seen hold.notes version }

abbrev pub first_back : List Hold → ℕ → View
first_back [] version = Spent
first_back (hold ∷ holds) version = Reader (resumed_hold hold version)

abbrev pub given_back : View → View
given_back (Writer account) = first_back account.settled account.version
given_back view = Spent
