-- What contracts see of a register and of its passes.
use Rattle.std.specs.Prelude.{◌≡◌, ◌≢◌, ℕ, zero, suc, ◌+◌, ◌<◌, ◌≤◌, max, true, false, slice_set, slice_index_or, length, List, [], ◌∷◌, ◌++◌, Option, Some, None}
use Rattle.atomic_table.specs.Seated.{TableId}
use Rattle.ft_shared.specs.declared.law.Sizes.{Sizes}
use Rattle.ft_shared.specs.declared.law.TakenVersion.{TakenVersion}
use Rattle.ft_shared.specs.declared.law.WordRead.{WordRead}
use Rattle.ft_shared.specs.declared.law.Pin.{Pin}
use Rattle.ft_shared.specs.declared.law.Notes.{Notes}
use Rattle.ft_shared.specs.declared.law.Hold.{Hold}
use Rattle.ft_shared.specs.declared.law.Account.{Account}
use Rattle.ft_shared.specs.declared.law.ToldVersion.{ToldVersion}
use Rattle.ft_shared.specs.declared.reader.KeptPass.{KeptPass}
use Rattle.ft_shared.specs.declared.law.WordStep.TheVariants.{Load, Store, Add}
use Rattle.ft_shared.specs.Layout.{current_at, leavers_at, pin_at, segment_at}
use Rattle.ft_shared.specs.Counts.{pin_of}
use Rattle.ft_shared.specs.Account.{opening_account, new_notes, slot_at, after_clear, after_publish}

-- Which register it is, and how large. A pass came from the register that it names
pub record RegisterId : Type 0 where
  pub table : TableId
  pub sizes : Sizes

-- slot: that of the version which the pass took last
pub record ReaderState : Type 0 where
  pub register : RegisterId
  pub notes : Notes
  pub slot : ℕ

pub record WriterState : Type 0 where
  pub register : RegisterId
  pub account : Account

-- what a reader's pass holds and has noted
abbrev pub hold_at : ReaderState → Hold
hold_at pass = record { notes = pass.notes; slot = pass.slot }

-- a note of a version
pub record NoteState : Type 0 where
  pub register : RegisterId
  pub version : ℕ

-- the passes behind seats of a table
abbrev pub reader_at : TableId → Hold → ReaderState
reader_at table hold = record {
  register = record { table = table; sizes = hold.notes.sizes };
  notes = hold.notes;
  slot = hold.slot;
}

abbrev pub writer_at : TableId → Account → WriterState
writer_at table account = record {
  register = record { table = table; sizes = account.sizes };
  account = account;
}

-- the note behind a seat of a table
abbrev pub note_at : TableId → ToldVersion → NoteState
note_at table told = record {
  register = record { table = table; sizes = told.sizes };
  version = told.version;
}

-- the writer's pass of a register that was just opened
abbrev pub opening_writer : RegisterId → ℕ → ℕ → List ℕ → WriterState
opening_writer register version root pool = record {
  register = register;
  account = opening_account register.sizes version root pool;
}

-- a pass that was never used
abbrev pub fresh_pass : RegisterId → ℕ → ReaderState
fresh_pass register number = record {
  register = register;
  notes = new_notes register.sizes number;
  slot = 0;
}

-- passes that were never used, with the numbers below n
abbrev pub fresh_passes : RegisterId → ℕ → List ReaderState
fresh_passes register zero = []
fresh_passes register (suc n) = fresh_passes register n ++ fresh_pass register n ∷ []

-- the look is noted, and what it gave is the greatest version seen; it is one load of CURRENT
abbrev pub note_look : Notes → ℕ → Notes
note_look notes version = record notes {
  looks = notes.looks ++ version ∷ [];
  latest = Some version;
  seen = version;
  steps = notes.steps ++ Load current_at ∷ [];
}

-- the take is noted, and its version is held; no look came since. It is one addition to CURRENT
abbrev pub note_take : Notes → TakenVersion → Notes
note_take notes taken = record notes {
  takes = notes.takes ++ taken ∷ [];
  held = Some taken;
  latest = None;
  seen = taken.version;
  steps = notes.steps ++ Add current_at ∷ [];
}

-- what is noted of a word that was read of the held version
abbrev pub held_read : Option TakenVersion → ℕ → ℕ → ℕ → List WordRead
held_read None segment at word = []
held_read (Some taken) segment at word =
    record { version = taken.version; pin = None; segment = segment; at = at; word = word } ∷ []

-- the word is noted, with the version that is held; it is one load of it
abbrev pub note_word : Notes → ℕ → ℕ → ℕ → Notes
note_word notes segment at word = record notes {
  reads = notes.reads ++ held_read notes.held segment at word;
  steps = notes.steps ++ Load (segment_at notes.sizes segment at) ∷ [];
}

-- a pin of this root, set from the version that is held
abbrev pub pin_from : Option TakenVersion → ℕ → Option Pin
pin_from None root = None
pin_from (Some taken) root = Some (record { version = taken.version; root = root })

-- the channel's pin names this root from now on, by one store to its word
abbrev pub note_pin : Notes → ℕ → ℕ → Notes
note_pin notes channel root = record notes {
  pins = slice_set notes.pins channel (pin_from notes.held root);
  steps = notes.steps ++ Store (pin_at notes.sizes notes.number channel) ∷ [];
}

-- the channel has no pin from now on, by one store to its word
abbrev pub note_unpin : Notes → ℕ → Notes
note_unpin notes channel = record notes {
  pins = slice_set notes.pins channel None;
  steps = notes.steps ++ Store (pin_at notes.sizes notes.number channel) ∷ [];
}

-- what is noted of a word that was read by a pin
abbrev pub pin_read : Option Pin → ℕ → ℕ → ℕ → List WordRead
pin_read None segment at word = []
pin_read (Some pin) segment at word = record {
  version = pin.version;
  pin = Some pin.root;
  segment = segment;
  at = at;
  word = word;
} ∷ []

-- the word is noted, with the channel's pin and its version; it is one load of it
abbrev pub note_pinned_word : Notes → ℕ → ℕ → ℕ → ℕ → Notes
note_pinned_word notes channel segment at word = record notes {
  reads = notes.reads ++ pin_read (pin_of notes channel) segment at word;
  steps = notes.steps ++ Load (segment_at notes.sizes segment at) ∷ [];
}

-- no version is held, by one addition to the leavers of its slot
abbrev pub note_leave : Notes → ℕ → Notes
note_leave notes slot = record notes {
  held = None;
  steps = notes.steps ++ Add (leavers_at slot) ∷ [];
}

-- no later look or take gives a version below this one
abbrev pub note_seen : Notes → ℕ → Notes
note_seen notes version = record notes { seen = max notes.seen version }

-- a note of this version was heard, by one load of CURRENT
abbrev pub note_heard : Notes → ℕ → Notes
note_heard notes version =
    record (note_seen notes version) { steps = notes.steps ++ Load current_at ∷ [] }

-- a settled pass that is given back while this version is current
abbrev pub resumed_pass : RegisterId → Hold → ℕ → ReaderState
resumed_pass register hold version = record {
  register = register;
  notes = note_seen hold.notes version;
  slot = hold.slot;
}

-- What is kept of a settled pass beside its seat: its number, and the slot of the version that it
-- took last
pub record IsKeptPass (sizes : Sizes) (hold : Hold) (kept : KeptPass) : Type 0 where
  pub told : hold.notes.sizes ≡ sizes
  pub slot : (hold.slot ≡ kept.slot) × (kept.slot < sizes.readers + 2)
  pub number : (hold.notes.number ≡ kept.number) × (kept.number < sizes.readers)

abbrev pub no_pass : KeptPass
no_pass = record { slot = 0; number = 0 }

-- The passes are kept in the order in which they were settled
abbrev pub ArePassesKept : Sizes → List KeptPass → List Hold → Type 0
ArePassesKept sizes kept [] = Unit {0}
ArePassesKept sizes kept (hold ∷ holds) =
    IsKeptPass sizes hold (slice_index_or kept (length holds) no_pass)
    × ArePassesKept sizes kept holds

-- A publish: it chose the first slot that was found free, and kept how many passes had taken the
-- version before. It is one store to the leavers of that slot, and one swap of CURRENT.
pub record Publishes (sizes : Sizes) (old new : Account) (root : ℕ) : Type 0 where
  pub slot : ℕ
  pub count : ℕ
  pub inside : (slot < sizes.readers + 2) × (slot ≢ old.slot)
  pub free : (slot_at old slot).free ≡ true
  pub first : (earlier : ℕ) → earlier < slot → (slot_at old earlier).free ≡ false
  pub few : count ≤ sizes.readers
  pub made : new ≡ after_publish (after_clear old slot) slot root count
