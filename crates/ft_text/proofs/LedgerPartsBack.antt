-- The parts of a ledger, read one after the other.
use Rattle.std.proofs.Common.{◌≡◌, ℕ, suc, ◌+◌, ◌==◌, true, false, decimal, List, [], ◌∷◌, ◌++◌, length, map, All, Option, Some, None, Ok, codes, refl, ap, ◌∙◌, arith}
use Rattle.std.proofs.lemmas.Bool.{cond-false, ne_eqb, and_from}
use Rattle.std.proofs.lemmas.List.Elements.{All-head, All-tail}
use Rattle.ft_types.specs.declared.journal.Entry.{Entry}
use Rattle.ft_types.specs.declared.journal.Refusal.{Refusal}
use Rattle.ft_types.specs.declared.tick_report.TickReport.{TickReport}
use Rattle.ft_text.specs.declared.record.HandEnd.{HandEnd}
use Rattle.ft_text.specs.declared.record.SavedLine.{SavedLine}
use Rattle.ft_lines.specs.Words.{numbers}
use Rattle.ft_lines.specs.Texts.{batch_text}
use Rattle.ft_text.specs.Record.{Ascend, HasHandCause, CanBeRefused}
use Rattle.ft_text.specs.Ledger.{entry_line, refusal_line, tick_line, tick_lines, hand_line, hand_cause, saved_line, end_line, cause_words}
use Rattle.ft_text.specs.LedgerWords.{Taking, if_over, said, entry, refusal, tick, hand}
use Rattle.ft_text.specs.LedgerReading.{LedgerPlace, one_line, line_or_wrong, lines_from, while_some, also, many}
use Rattle.ft_text.specs.LedgerBack.{EntryHasRanges, RefusalHasRanges, TickHasRanges, HandHasRanges}
use Rattle.ft_lines.specs.Plain.{plain}
use Rattle.ft_text.proofs.PlainWords.{plain_numbers, words_append}
use Rattle.ft_text.proofs.SplitsBack.{split, split_words, split_before}
use Rattle.ft_text.proofs.LedgerLinesBack.{TextGives, TellsPlace, entry_back, refusal_back, tick_back, hand_back, cause_name, plain_cause}
use Rattle.ft_text.specs.Known.{Known}

abbrev pub at_place : ℕ → List (List ℕ) → LedgerPlace
at_place at left = record { at = at; left = left }

-- ---- one line

pub one_back : {A : Type 0} (value : List ℕ → Option A) (at : ℕ) (line : List ℕ) (rest : List (List ℕ)) (x : A)
    → (length rest == 0) ≡ false → value line ≡ Some x → one_line value (at_place at (line ∷ rest)) ≡ Ok (x, at_place (at + 1) rest)
unfolding one_line
one_back value at line rest x more said = cond-false (length rest == 0) _ _ more ∙ ap (line_or_wrong at rest) said

-- ---- several lines

-- the first line, if there is one, has no value
abbrev pub Stops : {A : Type 0} → (List ℕ → Option A) → List (List ℕ) → Type 0
Stops value [] = Unit {0}
Stops value (line ∷ rest) = value line ≡ None

pub stopped : {S A : Type 0} (value : S → List ℕ → Option A) (moved : S → A → S) (state : S) (parts : List (List ℕ))
    → Stops (value state) parts → lines_from value moved state parts ≡ ([], parts)
unfolding lines_from
stopped value moved state [] stop = refl
stopped value moved state (line ∷ []) stop = refl
stopped value moved state (line ∷ next ∷ rest) stop =
    cond-false (length (next ∷ rest) == 0) _ _ (ne_eqb (length (next ∷ rest)) 0 (λ e. omega arith))
    ∙ ap (λ found. while_some (line ∷ next ∷ rest) found (λ x. lines_from value moved (moved state x) (next ∷ rest))) stop

-- each line has its value
abbrev pub AreLines : {S A : Type 0} → (S → List ℕ → Option A) → (S → A → S) → S → List A → List (List ℕ) → Type 0
AreLines value moved state [] [] = Unit {0}
AreLines value moved state [] (line ∷ lines) = ⊥
AreLines value moved state (x ∷ xs) [] = ⊥
AreLines value moved state (x ∷ xs) (line ∷ lines) = (value state line ≡ Some x) × AreLines value moved (moved state x) xs lines

abbrev pub moved_by : {S A : Type 0} → (S → A → S) → S → List A → S
moved_by moved state [] = state
moved_by moved state (x ∷ xs) = moved_by moved (moved state x) xs

pub some_behind : (lines rest : List (List ℕ)) → (length rest == 0) ≡ false → (length (lines ++ rest) == 0) ≡ false
some_behind [] rest some = some
some_behind (line ∷ lines) rest some = ne_eqb (length (line ∷ (lines ++ rest))) 0 (λ e. omega arith)

pub lines_back : {S A : Type 0} (value : S → List ℕ → Option A) (moved : S → A → S) (state : S) (xs : List A) (lines rest : List (List ℕ))
    → AreLines value moved state xs lines → (length rest == 0) ≡ false → Stops (value (moved_by moved state xs)) rest
    → lines_from value moved state (lines ++ rest) ≡ (xs, rest)
unfolding lines_from
lines_back value moved state [] [] rest are some stop = stopped value moved state rest stop
lines_back value moved state [] (line ∷ lines) rest are some stop = absurd are
lines_back value moved state (x ∷ xs) [] rest are some stop = absurd are
lines_back value moved state (x ∷ xs) (line ∷ lines) rest are some stop =
    let others = lines ++ rest in
    cond-false (length others == 0) _ _ (some_behind lines rest some)
    ∙ ap (λ found. while_some (line ∷ others) found (λ y. lines_from value moved (moved state y) others)) are.0
    ∙ ap (also x) (lines_back value moved (moved state x) xs lines rest are.1 some stop)

pub many_back : {S A : Type 0} (value : S → List ℕ → Option A) (moved : S → A → S) (state : S) (at : ℕ) (xs : List A)
    (lines rest : List (List ℕ))
    → AreLines value moved state xs lines → (length rest == 0) ≡ false → Stops (value (moved_by moved state xs)) rest
    → many value moved state (at_place at (lines ++ rest)) ≡ Ok (xs, at_place (at + length xs) rest)
unfolding many
many_back value moved state at xs lines rest are some stop =
    ap (λ read. Ok (read.0, at_place (at + length read.0) read.1)) (lines_back value moved state xs lines rest are some stop)

-- ---- which lines these are

pub entries_are : (known : Known) (form : ℕ) (entries : List Entry) (state : ℕ) → All (λ e. TextGives form e.batch) entries
    → All EntryHasRanges entries
    → AreLines {S = ℕ} (λ s. said (entry form)) (λ s x. s) state entries (map entry_line entries)
entries_are known form [] state gives all = tt
entries_are known form (e ∷ entries) state gives all =
    let Gives : Entry → Type 0 = λ e. TextGives form e.batch in (
      entry_back known form e (All-head EntryHasRanges e entries all) (All-head Gives e entries gives),
      entries_are known form entries state (All-tail Gives e entries gives) (All-tail EntryHasRanges e entries all),
    )

-- a refusal can be written in this form
abbrev pub TellsRefusal : ℕ → Refusal → Type 0
TellsRefusal form f = TextGives form f.batch × TellsPlace form f.cause

pub refusals_are : (known : Known) (form : ℕ) (refusals : List Refusal) (state : ℕ) → All (TellsRefusal form) refusals
    → All RefusalHasRanges refusals
    → All CanBeRefused refusals → AreLines {S = ℕ} (λ s. said (refusal form)) (λ s x. s) state refusals (map (refusal_line form) refusals)
refusals_are known form [] state tells all can = tt
refusals_are known form (f ∷ refusals) state tells all can =
    let r = All-head RefusalHasRanges f refusals all in
    let told = All-head CanBeRefused f refusals can in
    let tell = All-head (TellsRefusal form) f refusals tells in (
      refusal_back known form f r told.1 tell.1 tell.0,
      refusals_are known form refusals state (All-tail (TellsRefusal form) f refusals tells) (All-tail RefusalHasRanges f refusals all)
          (All-tail CanBeRefused f refusals can),
    )

pub ticks_are : (known : Known) (ticks : List TickReport) (n : ℕ) → All TickHasRanges ticks
    → AreLines (λ n. said (tick n)) (λ n x. suc n) n ticks (tick_lines n ticks)
ticks_are known [] n all = tt
ticks_are known (t ∷ ticks) n all =
    (tick_back known n t (All-head TickHasRanges t ticks all), ticks_are known ticks (suc n) (All-tail TickHasRanges t ticks all))

pub hands_are : (known : Known) (hands : List HandEnd) (least : ℕ) → All HandHasRanges hands → All HasHandCause hands → Ascend least hands
    → AreLines (λ least. said (hand least)) (λ least end. end.hand + 1) least hands (map hand_line hands)
hands_are known [] least all causes up = tt
hands_are known (h ∷ hands) least all causes up = (
  hand_back known least h (All-head HandHasRanges h hands all) (All-head HasHandCause h hands causes) up.0,
  hands_are known hands (h.hand + 1) (All-tail HandHasRanges h hands all) (All-tail HasHandCause h hands causes) up.1,
)

-- ---- how a line begins

-- its first word
pub record Begins (w line : List ℕ) : Type 0 where
  pub rest : List (List ℕ)
  pub words : split 32 line ≡ w ∷ rest

pub entry_begins : (known : Known) (e : Entry) → Begins (codes "c") (entry_line e)
entry_begins known e = record {
  rest = numbers (e.version ∷ e.hand ∷ e.seq ∷ []) ++ split 32 (batch_text e.batch);
  words = split_before (codes "c") (numbers (e.version ∷ e.hand ∷ e.seq ∷ [])) (batch_text e.batch) refl
      (plain_numbers known (e.version ∷ e.hand ∷ e.seq ∷ []));
}

pub refusal_begins : (known : Known) (form : ℕ) (f : Refusal) → Begins (codes "r") (refusal_line form f)
refusal_begins known form f =
    let ns = numbers (f.hand ∷ f.seq ∷ []) in
    let cw = cause_words form f.cause in
    record {
      rest = (ns ++ cw) ++ split 32 (batch_text f.batch);
      words = split_before (codes "r") (ns ++ cw) (batch_text f.batch) refl
          (words_append ns cw (plain_numbers known (f.hand ∷ f.seq ∷ [])) (plain_cause known form f.cause));
    }

pub tick_begins : (known : Known) (n : ℕ) (t : TickReport) → Begins (codes "t") (tick_line n t)
tick_begins known n t =
    let ns = n ∷ t.version ∷ t.order ∷ t.row ∷ t.tick ∷ t.frames ∷ [] in
    record { rest = numbers ns; words = split_words (codes "t") (numbers ns) refl (plain_numbers known ns) }

pub hand_begins : (known : Known) (h : HandEnd) → HasHandCause h → Begins (codes "h") (hand_line h)
hand_begins known h c =
    let ws = decimal h.hand ∷ hand_cause h.cause ∷ decimal h.at ∷ [] in
    record {
      rest = ws;
      words = split_words (codes "h") ws refl
          (and_from (plain (decimal h.hand)) _ (known.plain_decimal h.hand)
          (and_from (plain (hand_cause h.cause)) _ (cause_name h.cause c.0 c.1).1
          (and_from (plain (decimal h.at)) true (known.plain_decimal h.at) refl)));
    }

pub saved_begins : (known : Known) (s : SavedLine) → Begins (codes "s") (saved_line s)
saved_begins known s = record {
  rest = numbers (s.version ∷ s.bytes ∷ []);
  words = split_words (codes "s") (numbers (s.version ∷ s.bytes ∷ [])) refl (plain_numbers known (s.version ∷ s.bytes ∷ []));
}

pub end_begins : (known : Known) (status ticks : ℕ) → Begins (codes "end") (end_line status ticks)
end_begins known status ticks = record {
  rest = numbers (status ∷ ticks ∷ []);
  words = split_words (codes "end") (numbers (status ∷ ticks ∷ [])) refl (plain_numbers known (status ∷ ticks ∷ []));
}

-- a line that begins otherwise has no value
pub no_value : {A : Type 0} (taking : Taking A) (w line : List ℕ) → Begins w line → ((rest : List (List ℕ)) → taking (w ∷ rest) ≡ None)
    → said taking line ≡ None
no_value taking w line begins none = ap (λ words. if_over (taking words)) begins.words ∙ ap if_over (none begins.rest)
