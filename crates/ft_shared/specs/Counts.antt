-- Counts over the passes: those of readers that have a seat, and those that the writer's seat took
-- in.
use Rattle.std.specs.Prelude.{◌≡◌, Contains, ℕ, zero, suc, ◌+◌, ◌==◌, Bool, if◌then◌else◌, List, [], ◌∷◌, Option, Some, None, slice_index_or}
use Rattle.ft_shared.specs.declared.law.TakenVersion.{TakenVersion}
use Rattle.ft_shared.specs.declared.law.Pin.{Pin}
use Rattle.ft_shared.specs.declared.law.Notes.{Notes}
use Rattle.ft_shared.specs.declared.law.Hold.{Hold}
use Rattle.ft_shared.specs.declared.law.View.{View}
use Rattle.ft_shared.specs.declared.law.View.TheVariants.{Spent, Reader, Writer, Told}

abbrev pub bit : Bool → ℕ
bit test = if test then 1 else 0

-- the amounts of all items, added up
abbrev pub total : {A : Type 0} → (A → ℕ) → List A → ℕ
total amount [] = 0
total amount (item ∷ items) = amount item + total amount items

-- the amounts of 0, .., n - 1, added up
unfoldable pub sum_below : (ℕ → ℕ) → ℕ → ℕ
sum_below amount zero = 0
sum_below amount (suc n) = amount n + sum_below amount n

-- the sum over the passes behind a seat: the writer's has the settled ones
abbrev pub pass_sum : (Hold → ℕ) → View → ℕ
pass_sum amount Spent = 0
pass_sum amount (Reader hold) = amount hold
pass_sum amount (Writer account) = total amount account.settled
pass_sum amount (Told told) = 0

-- The pass is behind the seat: the writer's has the settled ones
abbrev pub IsBehind : View → Hold → Type 0
IsBehind Spent hold = ⊥
IsBehind (Reader other) hold = other ≡ hold
IsBehind (Writer account) hold = Contains account.settled hold
IsBehind (Told told) hold = ⊥

-- each pass counts 1
abbrev pub one : Hold → ℕ
one hold = 1

-- 1 for a pass with this number
abbrev pub has_number : ℕ → Hold → ℕ
has_number number hold = bit (hold.notes.number == number)

-- 1 where a version is held, and its slot is this one
abbrev pub grip : ℕ → Option TakenVersion → ℕ → ℕ
grip slot None borne_in = 0
grip slot (Some taken) borne_in = bit (borne_in == slot)

-- 1 for a pass that holds the version in the slot
abbrev pub grip_of : ℕ → Hold → ℕ
grip_of slot hold = grip slot hold.notes.held hold.slot

-- how many passes hold the version in the slot
abbrev pub holders : ℕ → List View → ℕ
holders slot views = total (pass_sum (grip_of slot)) views

-- ---- pins

abbrev pub pin_of : Notes → ℕ → Option Pin
pin_of notes channel = slice_index_or notes.pins channel None

-- the word of a pin: 0 where there is none, and else its root segment + 1
abbrev pub pin_word : Option Pin → ℕ
pin_word None = 0
pin_word (Some pin) = pin.root + 1

-- the word of the pin that a pass has on a channel, where it has this number
abbrev pub pin_amount : ℕ → ℕ → Hold → ℕ
pin_amount reader channel hold =
    if hold.notes.number == reader then pin_word (pin_of hold.notes channel) else 0
