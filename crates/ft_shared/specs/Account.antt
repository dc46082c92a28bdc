-- What the writer and the readers know at first, and what the writer's steps make of it.
use Rattle.std.specs.Prelude.{◌≡◌, ◌⊎◌, ℕ, ◌+◌, ◌-◌, ◌*◌, ◌<◌, ◌≤◌, ◌==◌, slice_get, slice_set, slice_index_or, Bool, true, false, if◌then◌else◌, List, [], ◌∷◌, ◌++◌, length, drop, replicate, Option, Some, None, Contains}
use Rattle.ft_shared.specs.declared.law.Sizes.{Sizes}
use Rattle.ft_shared.specs.declared.law.Opening.{Opening}
use Rattle.ft_shared.specs.declared.law.PinAnswer.{PinAnswer}
use Rattle.ft_shared.specs.declared.law.Notes.{Notes}
use Rattle.ft_shared.specs.declared.law.TakenVersion.{TakenVersion}
use Rattle.ft_shared.specs.declared.law.Hold.{Hold}
use Rattle.ft_shared.specs.declared.law.Slot.{Slot}
use Rattle.ft_shared.specs.declared.law.Account.{Account}
use Rattle.ft_shared.specs.declared.law.ToldVersion.{ToldVersion}
use Rattle.ft_shared.specs.declared.law.WordStep.TheVariants.{Load, Store, Swap}
use Rattle.ft_shared.specs.declared.law.View.{View}
use Rattle.ft_shared.specs.declared.law.View.TheVariants.{Reader, Writer, Told}
use Rattle.ft_segments.specs.Walk.{sample_walk, sample_uses}
use Rattle.ft_shared.specs.Layout.{current_at, leavers_at, pin_at, pool_at, segment_at}
use Rattle.ft_shared.specs.History.{IsOfVersion}

-- ---- slots

abbrev pub no_slot : Slot
no_slot = record { version = 0; start = 0; free = false }

-- a slot that bears this version from now on: nobody has left it, and no scan has found it free
abbrev pub new_slot : ℕ → Slot
new_slot version = record { version = version; start = 0; free = false }

abbrev pub slot_at : Account → ℕ → Slot
slot_at account slot = slice_index_or account.slots slot no_slot

-- ---- at first

-- the words fill the pool from its start, and the rest is 0
abbrev pub pool_of : ℕ → List ℕ → List ℕ
pool_of segments words = words ++ replicate (256 * segments - length words) 0

-- the writer's account of a register that was just opened, all of whose readers' passes are made
abbrev pub opening_account : Sizes → ℕ → ℕ → List ℕ → Account
opening_account sizes version root pool = record {
  sizes = sizes;
  given = sizes.readers;
  version = version;
  slot = 0;
  root = root;
  slots = replicate 10 (new_slot version);
  begun = false;
  scans = 0;
  scan = [];
  gone = 0;
  pin_scan = [];
  pinned = 0;
  settled = [];
  history = record { version = version; root = root; pool = pool } ∷ [];
  pool = pool;
  filled = replicate sizes.segments version;
  steps = [];
}

-- the same before any pass was made
abbrev pub first_account : Opening → Account
first_account key =
    record (opening_account key.sizes key.version key.root
    (drop (pool_at key.sizes) key.words.value.items)) { given = 0 }

-- a reader's notes before its first call
abbrev pub new_notes : Sizes → ℕ → Notes
new_notes sizes number = record {
  sizes = sizes;
  number = number;
  held = None;
  latest = None;
  seen = 0;
  pins = replicate sizes.channels None;
  looks = [];
  takes = [];
  reads = [];
  steps = [];
}

-- ---- behind a view

abbrev pub no_sizes : Sizes
no_sizes = record { segments = 0; readers = 0; channels = 0 }

abbrev pub hold_or : Hold → View → Hold
hold_or default (Reader hold) = hold
hold_or default _ = default

-- what the reader behind a view knows
abbrev pub hold_of : View → Hold
hold_of view = hold_or (record { notes = new_notes no_sizes 0; slot = 0 }) view

abbrev pub account_or : Account → View → Account
account_or default (Writer account) = account
account_or default _ = default

-- what the writer behind a view knows
abbrev pub account_of : View → Account
account_of view = account_or (opening_account no_sizes 0 0 []) view

abbrev pub told_or : ToldVersion → View → ToldVersion
told_or default (Told told) = told
told_or default _ = default

-- what the note behind a view says
abbrev pub told_of : View → ToldVersion
told_of view = told_or (record { sizes = no_sizes; version = 0 }) view

-- ---- notes, and settled passes

-- a note of the current version was made, by one load of CURRENT
abbrev pub after_note_made : Account → Account
after_note_made account = record account { steps = account.steps ++ Load current_at ∷ [] }

-- a reader gave up its pass, which held and had noted this; by two loads of CURRENT
abbrev pub after_settle : Account → Hold → Account
after_settle account hold = record account {
  settled = hold ∷ account.settled;
  steps = account.steps ++ Load current_at ∷ Load current_at ∷ [];
}

-- the first of these two, by which the writer's seat takes in the reader's
abbrev pub after_join : Account → Hold → Account
after_join account hold = record account {
  settled = hold ∷ account.settled;
  steps = account.steps ++ Load current_at ∷ [];
}

-- the second
abbrev pub after_learning : Account → Account
after_learning account = record account { steps = account.steps ++ Load current_at ∷ [] }

-- what the pass held and had noted that was settled last and not resumed yet
abbrev pub last_settled : Account → Option Hold
last_settled account = slice_get account.settled 0

-- that pass was given back, by one load of CURRENT
abbrev pub after_resume : Account → Account
after_resume account = record account {
  settled = drop 1 account.settled;
  steps = account.steps ++ Load current_at ∷ [];
}

-- every reader's pass is settled
abbrev pub AreAllSettled : Account → Type 0
AreAllSettled account = length account.settled ≡ account.sizes.readers

-- A settled pass holds the version in the slot
abbrev pub IsHeldSlot : Account → ℕ → Type 0
IsHeldSlot account slot =
    (hold : Hold) × (taken : TakenVersion) × Contains account.settled hold
    × (hold.notes.held ≡ Some taken) × (hold.slot ≡ slot)

-- The version that a pass holds is the one that its slot bears
abbrev pub IsBorne : Account → Hold → Type 0
IsBorne account hold = (taken : TakenVersion) → hold.notes.held ≡ Some taken
    → (hold.slot < account.sizes.readers + 2)
    × ((slot_at account hold.slot).version ≡ taken.version)

-- The reader with this number is settled: it held and had noted this
abbrev pub IsSettledReader : Account → ℕ → Hold → Type 0
IsSettledReader account reader hold =
    Contains account.settled hold × (hold.notes.number ≡ reader)

-- ---- scans

-- a scan begins: one load of CURRENT
abbrev pub after_begin : Account → Account
after_begin account = record account {
  begun = true;
  scans = account.scans + 1;
  scan = [];
  pin_scan = [];
  steps = account.steps ++ Load current_at ∷ [];
}

-- the slot that a scan looks at next
abbrev pub next_slot : Account → ℕ
next_slot account = length account.scan

-- a slot is free where it is not current and all that had taken its version have left, by these
-- leavers
abbrev pub is_free : Account → ℕ → ℕ → Bool
is_free account slot gone =
    if slot == account.slot then false else (slot_at account slot).start == gone

-- what a scan answers of the slot
abbrev pub answer_of : Account → ℕ → ℕ → Option ℕ
answer_of account slot gone =
    if is_free account slot gone then None else Some (slot_at account slot).version

-- the next slot was looked at by one load of its leavers, which were these
abbrev pub after_scan : Account → ℕ → Account
after_scan account gone = record account {
  gone = gone;
  scan = account.scan ++ answer_of account (next_slot account) gone ∷ [];
  slots = slice_set account.slots (next_slot account)
      (record (slot_at account (next_slot account)) {
        free = is_free account (next_slot account) gone;
      });
  steps = account.steps ++ Load (leavers_at (next_slot account)) ∷ [];
}

-- every slot was looked at since a scan began
abbrev pub SlotsAreMet : Sizes → Account → Type 0
SlotsAreMet sizes account = (account.begun ≡ true) × (length account.scan ≡ sizes.readers + 2)

-- what the word of a pin says: 0 that there is none, and else its root segment + 1
abbrev pub pinned_root : ℕ → Option ℕ
pinned_root word = if word == 0 then None else Some (word - 1)

abbrev pub pin_answer : ℕ → ℕ → Option ℕ → PinAnswer
pin_answer reader channel root = record { reader = reader; channel = channel; root = root }

-- a pin was looked at by one load of its word, which was this
abbrev pub after_pin_scan : Account → ℕ → ℕ → ℕ → Account
after_pin_scan account reader channel word = record account {
  pin_scan = account.pin_scan ++ pin_answer reader channel (pinned_root word) ∷ [];
  pinned = word;
  steps = account.steps ++ Load (pin_at account.sizes reader channel) ∷ [];
}

-- The scan answered this of the pin
abbrev pub IsPinAnswer : Account → ℕ → ℕ → Option ℕ → Type 0
IsPinAnswer account reader channel root =
    Contains account.pin_scan (pin_answer reader channel root)

-- The scan looked at the pin
abbrev pub IsPinMet : Account → ℕ → ℕ → Type 0
IsPinMet account reader channel = (root : Option ℕ) × IsPinAnswer account reader channel root

-- every slot, and then every pin was looked at since a scan began
abbrev pub IsWhole : Sizes → Account → Type 0
IsWhole sizes account = SlotsAreMet sizes account
    × ((reader channel : ℕ) → reader < sizes.readers → channel < sizes.channels
    → IsPinMet account reader channel)

-- A scan answered this version
abbrev pub IsAnswered : Account → ℕ → Type 0
IsAnswered account version = Contains account.scan (Some version)

-- A scan found the segment: it is one of the current version, or of a version that was answered, or
-- a pinned root that was answered names it, by the words last written
abbrev pub Found : Account → ℕ → Type 0
Found account segment =
    IsOfVersion account.history account.version segment
    ⊎ ((version : ℕ) × IsAnswered account version × IsOfVersion account.history version segment)
    ⊎ ((reader channel root : ℕ) × IsPinAnswer account reader channel (Some root)
    × (1 ≤ sample_uses segment (sample_walk account.pool root)))

-- The pass may fill the segment
abbrev pub MayFill : Sizes → Account → ℕ → Type 0
MayFill sizes account segment = IsWhole sizes account × (Found account segment → ⊥)

-- ---- words of the pool

-- a word of a segment was read by one load
abbrev pub after_read : Account → ℕ → ℕ → Account
after_read account segment at =
    record account { steps = account.steps ++ Load (segment_at account.sizes segment at) ∷ [] }

-- a word of a segment was filled for the next version by one store
abbrev pub after_fill : Account → ℕ → ℕ → ℕ → Account
after_fill account segment at word = record account {
  pool = slice_set account.pool (segment * 256 + at) word;
  filled = slice_set account.filled segment (account.version + 1);
  steps = account.steps ++ Store (segment_at account.sizes segment at) ∷ [];
}

-- ---- a publish

-- the leavers of the slot, and so its start, go to 0 by one store
abbrev pub after_clear : Account → ℕ → Account
after_clear account slot = record account {
  slots = slice_set account.slots slot (record (slot_at account slot) { start = 0 });
  steps = account.steps ++ Store (leavers_at slot) ∷ [];
}

-- the slot bears the next version by one swap of CURRENT; the slot that was current keeps how many
-- had taken its version
abbrev pub after_publish : Account → ℕ → ℕ → ℕ → Account
after_publish account slot root count = record account {
  version = account.version + 1;
  slot = slot;
  root = root;
  slots = slice_set
      (slice_set account.slots account.slot
      (record (slot_at account account.slot) { start = count }))
      slot (new_slot (account.version + 1));
  begun = false;
  scan = [];
  pin_scan = [];
  history = account.history
      ++ record { version = account.version + 1; root = root; pool = account.pool } ∷ [];
  steps = account.steps ++ Swap current_at ∷ [];
}
