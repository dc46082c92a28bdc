-- A whole ledger, read again.
use Rattle.std.proofs.Common.{◌≡◌, ℕ, suc, ◌+◌, ◌==◌, Bool, true, false, cond, List, [], ◌∷◌, ◌++◌, length, get_or, map, All, Option, Some, None, Result, Ok, Err, codes, refl, ap, ◌∙◌, arith, sym}
use Rattle.std.specs.Prelude.{IfSome}
use Rattle.std.proofs.lemmas.Bool.{ne_eqb}
use Rattle.std.proofs.lemmas.List.Elements.{All-head}
use Rattle.ft_types.specs.declared.commit_fault.CommitFault.{CommitFault}
use Rattle.ft_types.specs.declared.commit_fault.CommitFault.TheVariants as faults
use Rattle.ft_types.specs.declared.journal.Refusal.{Refusal}
use Rattle.ft_types.specs.declared.tick_report.TickReport.{TickReport}
use Rattle.ft_text.specs.declared.record.HandEnd.{HandEnd}
use Rattle.ft_text.specs.declared.record.SavedLine.{SavedLine}
use Rattle.ft_text.specs.Record.{LedgerAccount, IsTellable, HasHandCause}
use Rattle.ft_text.specs.Ledger.{head_line, play_line, entry_line, refusal_line, tick_line, tick_lines, hand_line, saved_line, saved_lines, end_line, ledger_text}
use Rattle.ft_text.specs.LedgerWords.{Taking, word, said, head, play, entry, refusal, tick, hand, saved, end}
use Rattle.ft_text.specs.LedgerReading.{LedgerPlace, line_number, one_line, many, lines_of, maybe_line, none_or, line_or_wrong, over, ledger, ledger_of}
use Rattle.ft_text.specs.LedgerBack.{IsFirst, IsOld, AccountHasRanges, EntryHasRanges, RefusalHasRanges, SavedHasRanges}
use Rattle.ft_text.proofs.LedgerLinesBack.{TextGives, TellsPlace, TellsSaved, TellsStatus, head_back, old_head_back, play_back, saved_back, end_back, told_test, old_told_test, places_told}
use Rattle.ft_text.proofs.LedgerPartsBack.{at_place, one_back, many_back, Stops, some_behind, TellsRefusal, entries_are, refusals_are, ticks_are, hands_are, refusal_begins, tick_begins, hand_begins, saved_begins, end_begins, no_value}
use Rattle.ft_text.proofs.LedgerLines.{parts_are}
use Rattle.ft_text.proofs.BatchesBack.{text_gives}
use Rattle.ft_lines.specs.Lines.{this_word}
use Rattle.ft_text.specs.Known.{Known}

-- a reading doesn't take a line that begins so
abbrev Refuses : {A : Type 0} → Taking A → List ℕ → Type 0
Refuses taking w = (rest : List (List ℕ)) → taking (w ∷ rest) ≡ None

-- ---- where a reading stops

stops_end : (known : Known) {A : Type 0} (taking : Taking A) (status ticks : ℕ) → Refuses taking (codes "end")
    → Stops (said taking) (end_line status ticks ∷ [] ∷ [])
stops_end known taking status ticks none = no_value taking (codes "end") (end_line status ticks) (end_begins known status ticks) none

stops_saved : (known : Known) {A : Type 0} (taking : Taking A) (s : Option SavedLine) (rest : List (List ℕ)) → Refuses taking (codes "s")
    → Stops (said taking) rest → Stops (said taking) (saved_lines s ++ rest)
stops_saved known taking None rest none stop = stop
stops_saved known taking (Some s) rest none stop = no_value taking (codes "s") (saved_line s) (saved_begins known s) none

stops_hands : (known : Known) {A : Type 0} (taking : Taking A) (hs : List HandEnd) (rest : List (List ℕ)) → All HasHandCause hs
    → Refuses taking (codes "h")
    → Stops (said taking) rest → Stops (said taking) (map hand_line hs ++ rest)
stops_hands known taking [] rest causes none stop = stop
stops_hands known taking (h ∷ hs) rest causes none stop = no_value taking (codes "h") (hand_line h)
    (hand_begins known h (All-head HasHandCause h hs causes)) none

stops_ticks : (known : Known) {A : Type 0} (taking : Taking A) (n : ℕ) (ts : List TickReport) (rest : List (List ℕ))
    → Refuses taking (codes "t")
    → Stops (said taking) rest → Stops (said taking) (tick_lines n ts ++ rest)
stops_ticks known taking n [] rest none stop = stop
stops_ticks known taking n (t ∷ ts) rest none stop = no_value taking (codes "t") (tick_line n t) (tick_begins known n t) none

stops_refusals : (known : Known) {A : Type 0} (taking : Taking A) (form : ℕ) (fs : List Refusal) (rest : List (List ℕ))
    → Refuses taking (codes "r")
    → Stops (said taking) rest → Stops (said taking) (map (refusal_line form) fs ++ rest)
stops_refusals known taking form [] rest none stop = stop
stops_refusals known taking form (f ∷ fs) rest none stop = no_value taking (codes "r") (refusal_line form f)
    (refusal_begins known form f) none

-- ---- the song that was saved

same_either_way : {A : Type 0} (b : Bool) (x : A) → cond b x x ≡ x
same_either_way true x = refl
same_either_way false x = refl

one_wrong : {A : Type 0} (value : List ℕ → Option A) (at : ℕ) (line : List ℕ) (rest : List (List ℕ)) → value line ≡ None
    → one_line value (at_place at (line ∷ rest)) ≡ Err (line_number at)
unfolding one_line
one_wrong {A} value at line rest none =
    let wrong : Result (A × LedgerPlace) ℕ = Err (line_number at) in
    ap (λ found. cond (length rest == 0) wrong (line_or_wrong at rest found)) none ∙ same_either_way (length rest == 0) wrong

saved_part : (known : Known) (form : ℕ) (s : Option SavedLine) (at : ℕ) (rest : List (List ℕ)) → IfSome s (λ s. TellsSaved form)
    → IfSome s SavedHasRanges
    → (length rest == 0) ≡ false → Stops (said (saved form)) rest
    → (end : ℕ) × (maybe_line (said (saved form)) (at_place at (saved_lines s ++ rest)) ≡ Ok (s, at_place end rest))
unfolding maybe_line
saved_part known form (Some s) at rest tells ranges some stop =
    let here = at_place at (saved_line s ∷ rest) in
    (at + 1, ap (none_or here) (one_back (said (saved form)) at (saved_line s) rest s some (saved_back known form s tells ranges)))
saved_part known form None at [] tells ranges some stop = absurd (cc)
saved_part known form None at (line ∷ rest) tells ranges some stop =
    (at, ap (none_or (at_place at (line ∷ rest))) (one_wrong (said (saved form)) at line rest stop))

over_back : {A : Type 0} (x : A) (at : ℕ) → over x (at_place at ([] ∷ [])) ≡ Ok (x, at_place at ([] ∷ []))
unfolding over
over_back x at = refl

-- ---- which lines each reading leaves

saved_refuses_end : (form : ℕ) → Refuses (saved form) (codes "end")
unfolding word
saved_refuses_end form rest =
    let none : cond (form == 1) None (this_word (codes "s") (codes "end")) ≡ None = same_either_way (form == 1) None in
    rw none refl

hand_refuses : (least : ℕ) → Refuses (hand least) (codes "s") × Refuses (hand least) (codes "end")
unfolding word
hand_refuses least = (λ rest. refl, λ rest. refl)

tick_refuses : (n : ℕ) → Refuses (tick n) (codes "h") × Refuses (tick n) (codes "s") × Refuses (tick n) (codes "end")
unfolding word
tick_refuses n = (λ rest. refl, λ rest. refl, λ rest. refl)

refusal_refuses : (form : ℕ) → Refuses (refusal form) (codes "t") × Refuses (refusal form) (codes "h")
    × Refuses (refusal form) (codes "s") × Refuses (refusal form) (codes "end")
unfolding word
refusal_refuses form = (λ rest. refl, λ rest. refl, λ rest. refl, λ rest. refl)

entry_refuses : (form : ℕ) → Refuses (entry form) (codes "r") × Refuses (entry form) (codes "t") × Refuses (entry form) (codes "h")
    × Refuses (entry form) (codes "s") × Refuses (entry form) (codes "end")
unfolding word
entry_refuses form = (λ rest. refl, λ rest. refl, λ rest. refl, λ rest. refl, λ rest. refl)

-- the lines of an account from each part on
abbrev last_lines : LedgerAccount → List (List ℕ)
last_lines a = end_line a.run.status (length a.ticks) ∷ [] ∷ []

abbrev saved_on : LedgerAccount → List (List ℕ)
saved_on a = saved_lines a.saved ++ last_lines a

abbrev hands_on : LedgerAccount → List (List ℕ)
hands_on a = map hand_line a.hands ++ saved_on a

abbrev ticks_on : LedgerAccount → List (List ℕ)
ticks_on a = tick_lines 0 a.ticks ++ hands_on a

abbrev refusals_on : ℕ → LedgerAccount → List (List ℕ)
refusals_on form a = map (refusal_line form) a.refusals ++ ticks_on a

stops_all_hands : (known : Known) (a : LedgerAccount) (least : ℕ) → Stops (said (hand least)) (saved_on a)
stops_all_hands known a least =
    let no = hand_refuses least in
    stops_saved known (hand least) a.saved (last_lines a) no.0 (stops_end known (hand least) a.run.status (length a.ticks) no.1)

stops_all_ticks : (known : Known) (a : LedgerAccount) → All HasHandCause a.hands → (n : ℕ) → Stops (said (tick n)) (hands_on a)
stops_all_ticks known a causes n =
    let no = tick_refuses n in
    stops_hands known (tick n) a.hands (saved_on a) causes no.0
    (stops_saved known (tick n) a.saved (last_lines a) no.1 (stops_end known (tick n) a.run.status (length a.ticks) no.2))

stops_all_refusals : (known : Known) (form : ℕ) (a : LedgerAccount) → All HasHandCause a.hands → Stops (said (refusal form)) (ticks_on a)
stops_all_refusals known form a causes =
    let no = refusal_refuses form in
    let taking = refusal form in
    stops_ticks known taking 0 a.ticks (hands_on a) no.0 (stops_hands known taking a.hands (saved_on a) causes no.1
    (stops_saved known taking a.saved (last_lines a) no.2 (stops_end known taking a.run.status (length a.ticks) no.3)))

stops_entries : (known : Known) (form : ℕ) (a : LedgerAccount) → All HasHandCause a.hands → Stops (said (entry form)) (refusals_on form a)
stops_entries known form a causes =
    let no = entry_refuses form in
    let taking = entry form in
    stops_refusals known taking form a.refusals (ticks_on a) no.0 (stops_ticks known taking 0 a.ticks (hands_on a) no.1
    (stops_hands known taking a.hands (saved_on a) causes no.2
    (stops_saved known taking a.saved (last_lines a) no.3 (stops_end known taking a.run.status (length a.ticks) no.4))))

-- ---- all

-- an account can be written in this form
pub record InForm (form : ℕ) (a : LedgerAccount) : Type 0 where
  pub first : said head (head_line form) ≡ Some form
  pub entries : All (λ e. TextGives form e.batch) a.entries
  pub refusals : All (TellsRefusal form) a.refusals
  pub song : IfSome a.saved (λ s. TellsSaved form)
  pub ending : TellsStatus form a.run.status

pub whole_back : (known : Known) (form : ℕ) (a : LedgerAccount) → InForm form a → IsTellable a → AccountHasRanges a
    → ledger_of (ledger_text form a) ≡ Ok a
unfolding ledger_of ledger
whole_back known form a f t r =
    let run = a.run in
    let l5 = last_lines a in
    let l4 = saved_on a in
    let l3 = hands_on a in
    let l2 = ticks_on a in
    let l1 = refusals_on form a in
    let l0 = map entry_line a.entries ++ l1 in
    let m5 : (length l5 == 0) ≡ false = refl in
    let m4 : (length l4 == 0) ≡ false = some_behind (saved_lines a.saved) l5 m5 in
    let m3 : (length l3 == 0) ≡ false = some_behind (map hand_line a.hands) l4 m4 in
    let m2 : (length l2 == 0) ≡ false = some_behind (tick_lines 0 a.ticks) l3 m3 in
    let m1 : (length l1 == 0) ≡ false = some_behind (map (refusal_line form) a.refusals) l2 m2 in
    let m0 : (length l0 == 0) ≡ false = some_behind (map entry_line a.entries) l1 m1 in
    let a3 = 2 + length a.entries in
    let a4 = a3 + length a.refusals in
    let a5 = a4 + length a.ticks in
    let a6 = a5 + length a.hands in
    let rest = play_line run ∷ l0 in
    let e1 : one_line (said head) (at_place 0 (head_line form ∷ rest)) ≡ Ok (form, at_place 1 rest) =
    one_back (said head) 0 (head_line form) rest form (ne_eqb (length rest) 0 (λ e. omega arith)) f.first in
    let e2 : one_line (said play) (at_place 1 rest) ≡ Ok (record run { status = 0 }, at_place 2 l0) =
    one_back (said play) 1 (play_line run) l0 (record run { status = 0 }) m0 (play_back known run r.run) in
    let e3 : lines_of (said (entry form)) (at_place 2 l0) ≡ Ok (a.entries, at_place a3 l1) =
    many_back {S = ℕ} (λ s. said (entry form)) (λ s x. s) 0 2 a.entries (map entry_line a.entries) l1
    (entries_are known form a.entries 0 f.entries r.entries) m1 (stops_entries known form a t.causes) in
    let e4 : lines_of (said (refusal form)) (at_place a3 l1) ≡ Ok (a.refusals, at_place a4 l2) =
    many_back {S = ℕ} (λ s. said (refusal form)) (λ s x. s) 0 a3 a.refusals (map (refusal_line form) a.refusals) l2
    (refusals_are known form a.refusals 0 f.refusals r.refusals t.refusals) m2 (stops_all_refusals known form a t.causes) in
    let e5 : many (λ n. said (tick n)) (λ n x. suc n) 0 (at_place a4 l2) ≡ Ok (a.ticks, at_place a5 l3) =
    many_back (λ n. said (tick n)) (λ n x. suc n) 0 a4 a.ticks (tick_lines 0 a.ticks) l3
    (ticks_are known a.ticks 0 r.ticks) m3 (stops_all_ticks known a t.causes _) in
    let e6 : many (λ least. said (hand least)) (λ least end. end.hand + 1) 0 (at_place a5 l3) ≡ Ok (a.hands, at_place a6 l4) =
    many_back (λ least. said (hand least)) (λ least end. end.hand + 1) 0 a5 a.hands (map hand_line a.hands) l4
    (hands_are known a.hands 0 r.hands t.causes t.ascending) m4 (stops_all_hands known a _) in
    let song = saved_part known form a.saved a6 l5 f.song r.saved m5
    (stops_end known (saved form) run.status (length a.ticks) (saved_refuses_end form)) in
    let e8 : one_line (said (end form (length a.ticks))) (at_place song.0 l5) ≡ Ok (run.status, at_place (song.0 + 1) ([] ∷ [])) =
    one_back (said (end form (length a.ticks))) song.0 (end_line run.status (length a.ticks)) ([] ∷ []) run.status refl
    (end_back known form run.status (length a.ticks) t.status f.ending) in
    rw (parts_are known form a t.causes, e1, e2, e3, e4, e5, e6, song.1, e8, over_back a (song.0 + 1)) refl

pub same_account : (a b : LedgerAccount) → ◌≡◌ {A = Result LedgerAccount ℕ} (Ok a) (Ok b) → a ≡ b
same_account a b same = cc

-- ---- the two forms

pub all_too : {X : Type 0} (P Q : X → Type 0) (xs : List X) → ((x : X) → P x → Q x) → All P xs → All Q xs
all_too P Q xs each all = λ k d h. each (get_or xs k d) (all k d h)

all_both : {X : Type 0} (P Q R : X → Type 0) (xs : List X) → ((x : X) → P x → Q x → R x) → All P xs → All Q xs → All R xs
all_both P Q R xs each all also = λ k d h. each (get_or xs k d) (all k d h) (also k d h)

if_some : (s : Option SavedLine) (P : Type 0) → P → IfSome s (λ s. P)
if_some None P p = tt
if_some (Some s) P p = p

pub in_form_2 : (known : Known) (a : LedgerAccount) → IsTellable a → AccountHasRanges a → InForm 2 a
in_form_2 known a t r = record {
  first = head_back;
  entries = all_too EntryHasRanges (λ e. TextGives 2 e.batch) a.entries
      (λ e ranges. text_gives known 2 e.batch ranges.3 (ranges.3).few) r.entries;
  refusals = all_too RefusalHasRanges (TellsRefusal 2) a.refusals
      (λ f ranges. (text_gives known 2 f.batch ranges.2 (ranges.2).few, places_told known f.cause ranges.3)) r.refusals;
  song = if_some a.saved (TellsSaved 2) refl;
  ending = told_test a.run.status t.status;
}

old_place : (c : CommitFault) → IsFirst c → TellsPlace 1 c
old_place (faults.Edit at f) first = λ rest. ap (λ n. Some (n, rest)) (sym first)
old_place (faults.Worn version) first = tt
old_place faults.NoMemory first = tt
old_place (faults.Full need free) first = tt

no_song : (s : Option SavedLine) → s ≡ None → IfSome s (λ s. TellsSaved 1)
no_song None e = tt
no_song (Some s) e = absurd (cc)

pub in_form_1 : (known : Known) (a : LedgerAccount) → IsOld a → IsTellable a → AccountHasRanges a → InForm 1 a
in_form_1 known a old t r = record {
  first = old_head_back;
  entries = all_both EntryHasRanges (λ e. length e.batch ≡ 1) (λ e. TextGives 1 e.batch) a.entries
      (λ e ranges one. text_gives known 1 e.batch ranges.3 (omega arith)) r.entries old.entries;
  refusals = all_both RefusalHasRanges (λ f. (length f.batch ≡ 1) × IsFirst f.cause) (TellsRefusal 1) a.refusals
      (λ f ranges one. (text_gives known 1 f.batch ranges.2 (omega arith), old_place f.cause one.1)) r.refusals old.refusals;
  song = no_song a.saved old.saved;
  ending = old_told_test a.run.status t.status old.status;
}
