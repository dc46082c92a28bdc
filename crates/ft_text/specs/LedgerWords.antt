-- What a line of a ledger says: it is cut at each space, and its words are taken from the left.
use Rattle.std.specs.Prelude.{ℕ, ◌==◌, ◌&&◌, ◌||◌, not, Bool, List, [], ◌∷◌, length, nat_le, bytes_eq, codes, decimal, Option, Some, None, Result, Ok, if◌then◌else◌}
use Rattle.std.specs.List.{slice_split, join_with_byte}
use Rattle.ft_types.specs.declared.edit.Edit.{Edit}
use Rattle.ft_types.specs.declared.edit_fault.EditFault.{EditFault}
use Rattle.ft_types.specs.declared.edit_fault.EditFault.TheVariants as causes
use Rattle.ft_types.specs.declared.commit_fault.CommitFault.{CommitFault}
use Rattle.ft_types.specs.declared.commit_fault.CommitFault.TheVariants as faults
use Rattle.ft_types.specs.declared.journal.Entry.{Entry}
use Rattle.ft_types.specs.declared.journal.Refusal.{Refusal}
use Rattle.ft_types.specs.declared.tick_report.TickReport.{TickReport}
use Rattle.ft_text.specs.declared.record.Run.{Run}
use Rattle.ft_text.specs.declared.record.HandEnd.{HandEnd}
use Rattle.ft_text.specs.declared.record.SavedLine.{SavedLine}
use Rattle.ft_lines.specs.Values.{number_of, signed_of}
use Rattle.ft_lines.specs.Texts.{batch_text}
use Rattle.ft_lines.specs.Edits.{named}
use Rattle.ft_lines.specs.Lines.{this_word, line_of}

-- ---- words of a line

-- a value and the words behind it, or none where the line is wrong
abbrev pub Taking : Type 0 → Type 0
Taking A = List (List ℕ) → Option (A × List (List ℕ))

-- the value is what is read, and no word is taken for it
abbrev pub give : {A : Type 0} → A → Taking A
give x words = Some (x, words)

abbrev pub follow : {A B : Type 0} → (A → Taking B) → Option (A × List (List ℕ))
    → Option (B × List (List ℕ))
follow next None = None
follow next (Some taken) = next taken.0 taken.1

infixl 10 ◌>>=◌
abbrev pub ◌>>=◌ : {A B : Type 0} → Taking A → (A → Taking B) → Taking B
(first >>= next) words = follow next (first words)

abbrev pub with_rest : {A : Type 0} → List (List ℕ) → Option A → Option (A × List (List ℕ))
with_rest rest None = None
with_rest rest (Some x) = Some (x, rest)

-- the next word, seen as a value
unfoldable pub word : {A : Type 0} → (List ℕ → Option A) → Taking A
word value [] = None
word value (first ∷ rest) = with_rest rest (value first)

abbrev pub this : List ℕ → Taking (List ℕ)
this wanted = word (this_word wanted)

-- a number of each type
abbrev pub u8_word : Taking ℕ
u8_word = word (number_of 255)

abbrev pub u16_word : Taking ℕ
u16_word = word (number_of 65535)

abbrev pub u32_word : Taking ℕ
u32_word = word (number_of 4294967295)

abbrev pub u64_word : Taking ℕ
u64_word = word (number_of 18446744073709551615)

-- the value of a line of which no word is left
abbrev pub if_over : {A : Type 0} → Option (A × List (List ℕ)) → Option A
if_over None = None
if_over (Some taken) = if length taken.1 == 0 then Some taken.0 else None

-- what a line says, word by word, with one space between two words
abbrev pub said : {A : Type 0} → Taking A → List ℕ → Option A
said taking line = if_over (taking (slice_split (λ b. b == 32) line))

-- ---- the edits of a line

-- one edit, without a time
abbrev pub one_edit : Result (Option (Option ℕ × List Edit)) ℕ → Option Edit
one_edit (Ok (Some (None, edit ∷ []))) = Some edit
one_edit _ = None

abbrev pub edit_before : Edit → Option (List Edit) → Option (List Edit)
edit_before edit None = None
edit_before edit (Some edits) = Some (edit ∷ edits)

abbrev pub then_others : Option (List Edit) → Option Edit → Option (List Edit)
then_others others None = None
then_others others (Some edit) = edit_before edit others

-- each part is an edit
abbrev pub each_edit : List (List ℕ) → Option (List Edit)
each_edit [] = Some []
each_edit (part ∷ parts) = then_others (each_edit parts) (one_edit (line_of 0 part))

-- these edits, where they are at most that many and the text is theirs
abbrev pub if_text : ℕ → List ℕ → Option (List Edit) → Option (List Edit)
if_text most text None = None
if_text most text (Some edits) =
    if nat_le (length edits) most && bytes_eq (batch_text edits) text then Some edits else None

-- the edits of a text: those of its parts between `;`
unfoldable pub batch_of : ℕ → List ℕ → Option (List Edit)
batch_of most text = if_text most text (each_edit (slice_split (λ b. b == 59) text))

-- how many edits a batch has at most; form 1 has single edits
abbrev pub most_edits : ℕ → ℕ
most_edits form = if form == 1 then 1 else 16

-- the edits of all words that are left
unfoldable pub batch : ℕ → Taking (List Edit)
batch form words = with_rest [] (batch_of (most_edits form) (join_with_byte 32 words))

-- ---- what each line says

-- a value that passes a test
abbrev pub only_if : {A : Type 0} → (A → Bool) → Option A → Option A
only_if test None = None
only_if test (Some x) = if test x then Some x else None

-- form 1 or 2
abbrev pub form_of : List ℕ → Option ℕ
form_of w = only_if (λ form. nat_le 1 form) (number_of 2 w)

abbrev pub head : Taking ℕ
head = do
  program ← this (codes "xmstudio")
  kind ← this (codes "ledger")
  word form_of

-- what was asked for; the status comes last in the ledger
abbrev pub play : Taking Run
play = do
  name ← this (codes "play")
  rate ← u32_word
  seconds ← u32_word
  segments ← u16_word
  channels ← u8_word
  give (record {
    rate = rate;
    seconds = seconds;
    segments = segments;
    channels = channels;
    status = 0;
  })

abbrev pub entry : ℕ → Taking Entry
entry form = do
  name ← this (codes "c")
  version ← u32_word
  hand ← u8_word
  seq ← u32_word
  edits ← batch form
  give (record { version = version; hand = hand; seq = seq; batch = edits })

-- the numbers of each fault of an edit
abbrev pub no_pattern : Taking EditFault
no_pattern = do
  p ← u8_word
  give (causes.NoPattern p)

abbrev pub no_row : Taking EditFault
no_row = do
  row ← u32_word
  rows ← u16_word
  give (causes.NoRow row rows)

abbrev pub no_channel : Taking EditFault
no_channel = do
  ch ← u16_word
  give (causes.NoChannel ch)

abbrev pub no_order : Taking EditFault
no_order = do
  position ← u16_word
  give (causes.NoOrder position)

abbrev pub no_instrument : Taking EditFault
no_instrument = do
  i ← u8_word
  give (causes.NoInstrument i)

abbrev pub range : Taking EditFault
range = do
  field ← u8_word
  found ← word (signed_of 9223372036854775807)
  give (causes.Range field found)

abbrev pub too_many : Taking EditFault
too_many = do
  what ← u8_word
  count ← u32_word
  give (causes.TooMany what count)

abbrev pub no_sample : Taking EditFault
no_sample = do
  i ← u8_word
  s ← u8_word
  give (causes.NoSample i s)

abbrev pub cut : Taking EditFault
cut = do
  from ← u32_word
  to ← u64_word
  frames ← u32_word
  give (causes.Cut from to frames)

-- no line says this
abbrev pub wrong : {A : Type 0} → Taking A
wrong words = None

-- the fault of this number
abbrev pub fault_by : ℕ → Taking EditFault
fault_by number =
    if number == 1 then no_pattern
    else if number == 2 then no_row
    else if number == 3 then no_channel
    else if number == 4 then no_order
    else if number == 5 then no_instrument
    else if number == 6 then range
    else if number == 7 then too_many
    else if number == 8 then no_sample
    else if number == 9 then cut
    else wrong

-- an edit's fault, behind its number
unfoldable pub fault : Taking EditFault
fault = do
  number ← u8_word
  fault_by number

-- the place of the edit in its batch; form 1 has only the first
abbrev pub place : ℕ → Taking ℕ
place form = if form == 1 then give 0 else u8_word

abbrev pub edit_cause : ℕ → Taking CommitFault
edit_cause form = do
  at ← place form
  why ← fault
  give (faults.Edit at why)

abbrev pub worn_cause : Taking CommitFault
worn_cause = do
  version ← u32_word
  give (faults.Worn version)

abbrev pub full_cause : Taking CommitFault
full_cause = do
  need ← u32_word
  free ← u32_word
  give (faults.Full need free)

abbrev pub cause_readings : ℕ → List (List ℕ × Taking CommitFault)
cause_readings form = (codes "edit", edit_cause form) ∷ (codes "worn", worn_cause) ∷
    (codes "full", full_cause) ∷ []

-- why a batch was refused
unfoldable pub cause : ℕ → Taking CommitFault
cause form = do
  numbers ← word (named (cause_readings form))
  numbers

abbrev pub refusal : ℕ → Taking Refusal
refusal form = do
  name ← this (codes "r")
  hand ← u8_word
  seq ← u32_word
  why ← cause form
  edits ← batch form
  give (record { hand = hand; seq = seq; batch = edits; cause = why })

-- the tick of this number
abbrev pub tick : ℕ → Taking TickReport
tick n = do
  name ← this (codes "t")
  number ← this (decimal n)
  version ← u32_word
  order ← u16_word
  row ← u16_word
  count ← u16_word
  frames ← u32_word
  give (record { version = version; order = order; row = row; tick = count; frames = frames })

-- a hand's number that is at least this
abbrev pub hand_from : ℕ → List ℕ → Option ℕ
hand_from least w = only_if (λ hand. nat_le least hand) (number_of 255 w)

abbrev pub hand_causes : List (List ℕ × ℕ)
hand_causes = (codes "malformed", 1) ∷ (codes "failed", 2) ∷ (codes "limit", 3) ∷
    (codes "memory", 4) ∷ []

abbrev pub hand : ℕ → Taking HandEnd
hand least = do
  name ← this (codes "h")
  number ← word (hand_from least)
  why ← word (named hand_causes)
  at ← u32_word
  give (record { hand = number; cause = why; at = at })

-- only form 2 names a saved song
abbrev pub saved_name : ℕ → List ℕ → Option (List ℕ)
saved_name form w = if form == 1 then None else this_word (codes "s") w

abbrev pub saved : ℕ → Taking SavedLine
saved form = do
  name ← word (saved_name form)
  version ← u32_word
  bytes ← u32_word
  give (record { version = version; bytes = bytes })

-- a status that a ledger of this form may end with
abbrev pub is_told : ℕ → ℕ → Bool
is_told form status =
    (status == 0) || (status == 5) || (status == 8) || (status == 9)
    || ((status == 10) && not (form == 1))

abbrev pub status_of : ℕ → List ℕ → Option ℕ
status_of form w = only_if (is_told form) (number_of 255 w)

-- the status, after that many ticks
abbrev pub end : ℕ → ℕ → Taking ℕ
end form ticks = do
  name ← this (codes "end")
  status ← word (status_of form)
  count ← this (decimal ticks)
  give status
