-- The rule of the register: what holds of its words and of all views between any two steps.
use Rattle.std.specs.Prelude.{◌≡◌, ◌≢◌, ℕ, ◌+◌, ◌*◌, ◌<◌, ◌≤◌, ◌==◌, nat_lt, Bool, true, if◌then◌else◌, List, length, slice_index, All, Some}
use mathlib.Core.Option.{some}
use lib.ListN.{get_elem?}
use Rattle.atomic_table.specs.Table.{State, Me}
use Rattle.ft_shared.specs.declared.law.Opening.{Opening}
use Rattle.ft_shared.specs.declared.law.TakenVersion.{TakenVersion}
use Rattle.ft_shared.specs.declared.law.Hold.{Hold}
use Rattle.ft_shared.specs.declared.law.Account.{Account}
use Rattle.ft_shared.specs.declared.law.ToldVersion.{ToldVersion}
use Rattle.ft_shared.specs.declared.law.View.{View}
use Rattle.ft_shared.specs.declared.law.View.TheVariants.{Spent, Reader, Writer, Told}
use Rattle.ft_shared.specs.Layout.{current_at, current_word, leavers_at, pin_at, pool_at, word_count}
use Rattle.ft_shared.specs.Counts.{bit, total, sum_below, pass_sum, one, has_number, holders, pin_amount}
use Rattle.ft_shared.specs.History.{Agrees, IsHistory}
use Rattle.ft_shared.specs.Account.{slot_at, next_slot}
use Rattle.ft_shared.specs.Segments.{SegmentRule}

-- the words, and the view of each seat
abbrev pub TableState : Type 0
TableState = State (Unit {0}) View

-- the view of one seat; no seat holds anything else
abbrev pub SeatView : Type 0
SeatView = Me (Unit {0}) View

-- What holds of each reader's pass, whether it has a seat or was settled
pub record PassRule (key : Opening) (account : Account) (hold : Hold) : Type 0 where
  pub told : hold.notes.sizes ≡ key.sizes
  -- no version above the current one was seen
  pub past : hold.notes.seen ≤ account.version
  pub recent : (version : ℕ) → hold.notes.latest ≡ Some version → version ≤ account.version
  -- the held version is the one that its slot bears
  pub borne : (taken : TakenVersion) → hold.notes.held ≡ Some taken
      → (hold.slot < key.sizes.readers + 2) × ((slot_at account hold.slot).version ≡ taken.version)
  pub agrees : Agrees account.history hold.notes

-- What holds of each note: it names no version above the current one
pub record IsTold (key : Opening) (account : Account) (told : ToldVersion) : Type 0 where
  pub sizes : told.sizes ≡ key.sizes
  pub past : told.version ≤ account.version

-- Which view a seat may have: there is one writer, whose account this is
abbrev pub Fits : Opening → Account → ℕ → ℕ → View → Type 0
Fits key account writer seat Spent = Unit {0}
Fits key account writer seat (Reader hold) = PassRule key account hold
Fits key account writer seat (Writer other) = (other ≡ account) × (seat ≡ writer)
Fits key account writer seat (Told told) = IsTold key account told

abbrev pub amount : Bool → Bool → Bool → ℕ → ℕ
amount current free met holding =
    if current then 0 else (if free then 0 else (if met then 1 else holding))

-- what the slot counts in a scan: nothing where it is current or free, 1 where it was found held,
-- and the passes that hold it where it was not looked at yet
abbrev pub scan_count : Account → List View → ℕ → ℕ
scan_count account views slot =
    amount (slot == account.slot) (slot_at account slot).free
    (nat_lt slot (next_slot account)) (holders slot views)

-- the same after a whole scan: 1 for each slot found held
abbrev pub marks : Account → ℕ → ℕ
marks account slot = amount (slot == account.slot) (slot_at account slot).free true 0

pub record RegisterRule (key : Opening) (state : TableState) : Type 0 where
  pub writer : ℕ
  pub account : Account
  pub few : key.sizes.readers ≤ 8
  pub told : account.sizes ≡ key.sizes
  pub wide : length state.words ≡ word_count key.sizes
  pub deep : length account.slots ≡ 10
  pub ranges : (account.version < 4294967296) × (account.root < 65536)
      × (account.slot < key.sizes.readers + 2)
  -- the current word: the last version of the history and its root, the slot that bears it, and how
  -- many passes hold it
  pub current : slice_index state.words current_at
      ≡ current_word account.version account.slot account.root (holders account.slot state.views)
  pub bears : (slot_at account account.slot).version ≡ account.version
  pub history : IsHistory account.history key.version account.version account.root
  -- the reader count: nobody has left the current slot
  pub fresh : slice_index state.words (leavers_at account.slot) ≡ 0
  -- the leaver counts: of those that had taken another slot's version, these hold it still
  pub leavers : (slot : ℕ) → slot < key.sizes.readers + 2 → slot ≢ account.slot
      → (slot_at account slot).start
      ≡ slice_index state.words (leavers_at slot) + holders slot state.views
  pub starts : (slot : ℕ) → (slot_at account slot).start ≤ key.sizes.readers
  -- free slots stay free: nobody holds one, and it is not current
  pub unused : (slot : ℕ) → (slot_at account slot).free ≡ true
      → (slot ≢ account.slot) × (holders slot state.views ≡ 0)
  -- the scan count: the slots found held, and the passes that hold one not looked at yet, are at
  -- most the readers
  pub scanned : account.begun ≡ true
      → sum_below (scan_count account state.views) (key.sizes.readers + 2) ≤ key.sizes.readers
  -- the passes: each number below the passes made is that of one pass, settled ones included, and
  -- there is no other number
  pub count : (total (pass_sum one) state.views ≡ account.given)
      × (account.given ≤ key.sizes.readers)
  pub numbers : (number : ℕ)
      → total (pass_sum (has_number number)) state.views ≡ bit (nat_lt number account.given)
  -- the pin words: the pin that the pass with this number has on the channel; 0 where it has none,
  -- or there is no such pass
  pub pins : (reader channel : ℕ) → reader < key.sizes.readers → channel < key.sizes.channels
      → slice_index state.words (pin_at key.sizes reader channel)
      ≡ total (pass_sum (pin_amount reader channel)) state.views
  -- the words of the pool are those last written
  pub stored : (length account.pool ≡ 256 * key.sizes.segments)
      × ((n : ℕ) → slice_index state.words (pool_at key.sizes + n) ≡ slice_index account.pool n)
  pub segments : SegmentRule key.sizes state.views account
  pub settled : All (PassRule key account) account.settled
  pub each_seat : (seat : ℕ) (view : View) → get_elem? state.views seat ≡ some view
      → Fits key account writer seat view
