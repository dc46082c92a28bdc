-- Lines of a ledger, which say what they were written of.
use Rattle.std.proofs.Common.{◌≡◌, ◌≢◌, ℕ, zero, suc, ◌^◌, ◌<◌, ◌≤◌, true, ◌&&◌, inl, inr, List, [], ◌∷◌, ◌++◌, nat_le, Some, None, codes, decimal, refl, ap, ◌∙◌, arith, append_assoc, ◌==◌}
use Rattle.std.specs.Prelude.{bytes_eq}
use Rattle.std.specs.Fmt.{digits, signed_decimal}
use Rattle.std.proofs.lemmas.Bool.{and_from, cond-true, cond_both, le-leb}
use Rattle.std.proofs.lemmas.Slice.Eq.{bytes_eq-Decides}
use Rattle.std.proofs.lemmas.List.Splits.{join_with_byte-slice_split}
use Rattle.ft_types.specs.declared.edit.Edit.{Edit}
use Rattle.ft_types.specs.declared.edit_fault.EditFault.{EditFault}
use Rattle.ft_types.specs.declared.edit_fault.EditFault.TheVariants as causes
use Rattle.ft_types.specs.declared.commit_fault.CommitFault.{CommitFault}
use Rattle.ft_types.specs.declared.commit_fault.CommitFault.TheVariants as faults
use Rattle.ft_types.specs.declared.journal.Entry.{Entry}
use Rattle.ft_types.specs.declared.journal.Refusal.{Refusal}
use Rattle.ft_types.specs.declared.tick_report.TickReport.{TickReport}
use Rattle.ft_text.specs.declared.record.Run.{Run}
use Rattle.ft_text.specs.declared.record.HandEnd.{HandEnd}
use Rattle.ft_text.specs.declared.record.SavedLine.{SavedLine}
use Rattle.ft_lines.specs.Values.{number_of}
use Rattle.ft_lines.specs.Words.{numbers}
use Rattle.ft_lines.specs.Texts.{text_of_words, batch_text}
use Rattle.ft_lines.specs.Edits.{named}
use Rattle.ft_lines.specs.Lines.{this_word}
use Rattle.ft_text.specs.Record.{IsEndStatus, HasHandCause}
use Rattle.ft_text.specs.Ledger.{head_line, play_line, entry_line, refusal_line, tick_line, hand_line, hand_cause, saved_line, end_line, fault_words, place_words, cause_words}
use Rattle.ft_text.specs.LedgerWords.{Taking, word, if_over, said, head, play, only_if, is_told, status_of, hand_from, hand_causes, entry, batch, batch_of, fault, cause, refusal, tick, hand, saved, end, with_rest, saved_name, place, edit_cause, most_edits}
use Rattle.ft_text.specs.LedgerBack.{RunHasRanges, EntryHasRanges, FaultHasRanges, CauseHasRanges, RefusalHasRanges, TickHasRanges, HandHasRanges, SavedHasRanges}
use Rattle.ft_lines.specs.Plain.{plain, all_plain}
use Rattle.ft_text.proofs.PlainWords.{plain_numbers, one_word, words_append}
use Rattle.ft_text.proofs.SplitsBack.{split, split_words, split_before}
use Rattle.ft_text.specs.Known.{Known}

this_back : (w : List ℕ) → this_word w w ≡ Some w
this_back w = cond-true (bytes_eq w w) (Some w) None ((bytes_eq-Decides w w).1 refl)

n8 : (known : Known) (n : ℕ) → n < 2 ^ 8 → number_of 255 (decimal n) ≡ Some n
n8 known n small = known.number_back 255 n (omega arith) (omega arith)

n16 : (known : Known) (n : ℕ) → n < 2 ^ 16 → number_of 65535 (decimal n) ≡ Some n
n16 known n small = known.number_back 65535 n (omega arith) (omega arith)

n32 : (known : Known) (n : ℕ) → n < 2 ^ 32 → number_of 4294967295 (decimal n) ≡ Some n
n32 known n small = known.number_back 4294967295 n (omega arith) (omega arith)

n64 : (known : Known) (n : ℕ) → n < 2 ^ 64 → number_of 18446744073709551615 (decimal n) ≡ Some n
n64 known n small = known.number_back 18446744073709551615 n (omega arith) (omega arith)

-- a line of plain words
said_is : {A : Type 0} (taking : Taking A) (w : List ℕ) (ws : List (List ℕ)) (x : A) → plain w ≡ true → all_plain ws ≡ true
    → taking (w ∷ ws) ≡ Some (x, []) → said taking (text_of_words (w ∷ ws)) ≡ Some x
said_is taking w ws x is all e = ap (λ words. if_over (taking words)) (split_words w ws is all) ∙ ap if_over e

pub play_back : (known : Known) (run : Run) → RunHasRanges run → said play (play_line run) ≡ Some (record run { status = 0 })
unfolding word
play_back known run r = said_is play (codes "play") (numbers (run.rate ∷ run.seconds ∷ run.segments ∷ run.channels ∷ []))
    (record run { status = 0 }) refl
    (plain_numbers known (run.rate ∷ run.seconds ∷ run.segments ∷ run.channels ∷ []))
    (rw (n32 known run.rate r.0, n32 known run.seconds r.1, n16 known run.segments r.2, n8 known run.channels r.3) refl)

pub tick_back : (known : Known) (n : ℕ) (t : TickReport) → TickHasRanges t → said (tick n) (tick_line n t) ≡ Some t
unfolding word
tick_back known n t r = said_is (tick n) (codes "t") (numbers (n ∷ t.version ∷ t.order ∷ t.row ∷ t.tick ∷ t.frames ∷ [])) t refl
    (plain_numbers known (n ∷ t.version ∷ t.order ∷ t.row ∷ t.tick ∷ t.frames ∷ []))
    (rw (
      this_back (decimal n),
      n32 known t.version r.0,
      n16 known t.order r.1,
      n16 known t.row r.2,
      n16 known t.tick r.3,
      n32 known t.frames r.4,
    ) refl)

-- a saved song can be written in this form
abbrev pub TellsSaved : ℕ → Type 0
TellsSaved form = saved_name form (codes "s") ≡ Some (codes "s")

pub saved_back : (known : Known) (form : ℕ) (s : SavedLine) → TellsSaved form → SavedHasRanges s → said (saved form) (saved_line s) ≡ Some s
unfolding word
saved_back known form s told r = said_is (saved form) (codes "s") (numbers (s.version ∷ s.bytes ∷ [])) s refl
    (plain_numbers known (s.version ∷ s.bytes ∷ []))
    (rw (told, n32 known s.version r.0, n32 known s.bytes r.1) refl)

pub head_back : said head (head_line 2) ≡ Some 2
unfolding word digits
head_back = refl

pub old_head_back : said head (head_line 1) ≡ Some 1
unfolding word digits
old_head_back = refl

-- a status can be written in this form
abbrev pub TellsStatus : ℕ → ℕ → Type 0
TellsStatus form status = is_told form status ≡ true

pub told_test : (status : ℕ) → IsEndStatus status → TellsStatus 2 status
told_test status (inl e) = ap (is_told 2) e
told_test status (inr (inl e)) = ap (is_told 2) e
told_test status (inr (inr (inl e))) = ap (is_told 2) e
told_test status (inr (inr (inr (inl e)))) = ap (is_told 2) e
told_test status (inr (inr (inr (inr e)))) = ap (is_told 2) e

pub old_told_test : (status : ℕ) → IsEndStatus status → status ≢ 10 → TellsStatus 1 status
old_told_test status (inl e) other = ap (is_told 1) e
old_told_test status (inr (inl e)) other = ap (is_told 1) e
old_told_test status (inr (inr (inl e))) other = ap (is_told 1) e
old_told_test status (inr (inr (inr (inl e)))) other = ap (is_told 1) e
old_told_test status (inr (inr (inr (inr e)))) other = absurd (other e)

told_small : (status : ℕ) → IsEndStatus status → status < 2 ^ 8
told_small status (inl e) = omega arith
told_small status (inr (inl e)) = omega arith
told_small status (inr (inr (inl e))) = omega arith
told_small status (inr (inr (inr (inl e)))) = omega arith
told_small status (inr (inr (inr (inr e)))) = omega arith

status_back : (known : Known) (form status : ℕ) → IsEndStatus status → TellsStatus form status
    → status_of form (decimal status) ≡ Some status
status_back known form status told tells =
    ap (only_if (is_told form)) (n8 known status (told_small status told)) ∙ cond-true (is_told form status) (Some status) None tells

pub end_back : (known : Known) (form status ticks : ℕ) → IsEndStatus status → TellsStatus form status
    → said (end form ticks) (end_line status ticks) ≡ Some status
unfolding word
end_back known form status ticks told tells = said_is (end form ticks) (codes "end") (numbers (status ∷ ticks ∷ [])) status refl
    (plain_numbers known (status ∷ ticks ∷ []))
    (rw (status_back known form status told tells, this_back (decimal ticks)) refl)

-- ---- hands

pub cause_name : (c : ℕ) → 1 ≤ c → c ≤ 4 → (named hand_causes (hand_cause c) ≡ Some c) × (plain (hand_cause c) ≡ true)
cause_name zero low high = absurd (omega arith)
cause_name (suc zero) low high = (refl, refl)
cause_name (suc (suc zero)) low high = (refl, refl)
cause_name (suc (suc (suc zero))) low high = (refl, refl)
cause_name (suc (suc (suc (suc zero)))) low high = (refl, refl)
cause_name (suc (suc (suc (suc (suc c))))) low high = absurd (omega arith)

number_from : (known : Known) (least n : ℕ) → least ≤ n → n < 2 ^ 8 → hand_from least (decimal n) ≡ Some n
number_from known least n low small =
    ap (only_if (λ hand. nat_le least hand)) (n8 known n small) ∙ cond-true (nat_le least n) (Some n) None (le-leb least n low)

pub hand_back : (known : Known) (least : ℕ) (h : HandEnd) → HandHasRanges h → HasHandCause h → least ≤ h.hand
    → said (hand least) (hand_line h) ≡ Some h
unfolding word
hand_back known least h r c low =
    let name = cause_name h.cause c.0 c.1 in
    said_is (hand least) (codes "h") (decimal h.hand ∷ hand_cause h.cause ∷ decimal h.at ∷ []) h refl
    (and_from (plain (decimal h.hand)) (plain (hand_cause h.cause) && (plain (decimal h.at) && true)) (known.plain_decimal h.hand)
    (and_from (plain (hand_cause h.cause)) (plain (decimal h.at) && true) name.1
    (and_from (plain (decimal h.at)) true (known.plain_decimal h.at) refl)))
    (rw (number_from known least h.hand low r.0, name.0, n32 known h.at r.1) refl)

-- ---- causes of refusals

fault_back : (known : Known) (f : EditFault) (rest : List (List ℕ)) → FaultHasRanges f → fault (fault_words f ++ rest) ≡ Some (f, rest)
unfolding fault word
fault_back known (causes.NoPattern p) rest r = rw (n8 known 1 (omega arith), n8 known p r) refl
fault_back known (causes.NoRow row rows) rest r = rw (n8 known 2 (omega arith), n32 known row r.0, n16 known rows r.1) refl
fault_back known (causes.NoChannel ch) rest r = rw (n8 known 3 (omega arith), n16 known ch r) refl
fault_back known (causes.NoOrder position) rest r = rw (n8 known 4 (omega arith), n16 known position r) refl
fault_back known (causes.NoInstrument i) rest r = rw (n8 known 5 (omega arith), n8 known i r) refl
fault_back known (causes.Range field found) rest r = rw (n8 known 6 (omega arith), n8 known field r.0, known.i64_back found r.1) refl
fault_back known (causes.TooMany what count) rest r = rw (n8 known 7 (omega arith), n8 known what r.0, n32 known count r.1) refl
fault_back known (causes.NoSample i s) rest r = rw (n8 known 8 (omega arith), n8 known i r.0, n8 known s r.1) refl
fault_back known (causes.Cut from to frames) rest r = rw
    (n8 known 9 (omega arith), n32 known from r.0, n64 known to r.1, n32 known frames r.2) refl

-- the place of an edit can be written in this form
abbrev pub TellsPlace : ℕ → CommitFault → Type 0
TellsPlace form (faults.Edit at f) = (rest : List (List ℕ)) → place form (place_words form at ++ rest) ≡ Some (at, rest)
TellsPlace form (faults.Worn version) = Unit {0}
TellsPlace form faults.NoMemory = Unit {0}
TellsPlace form (faults.Full need free) = Unit {0}

pub places_told : (known : Known) (c : CommitFault) → CauseHasRanges c → TellsPlace 2 c
unfolding word
places_told known (faults.Edit at f) r = λ rest. rw (n8 known at r.0) refl
places_told known (faults.Worn version) r = tt
places_told known faults.NoMemory r = tt
places_told known (faults.Full need free) r = tt

cause_back : (known : Known) (form : ℕ) (c : CommitFault) (rest : List (List ℕ)) → TellsPlace form c → CauseHasRanges c
    → c ≢ faults.NoMemory
    → cause form (cause_words form c ++ rest) ≡ Some (c, rest)
unfolding cause word
cause_back known form (faults.Edit at f) rest tells r told =
    ap (edit_cause form) (append_assoc (place_words form at) (fault_words f) rest)
    ∙ rw (tells (fault_words f ++ rest), fault_back known f rest r.1) refl
cause_back known form (faults.Worn version) rest tells r told = rw (n32 known version r) refl
cause_back known form faults.NoMemory rest tells r told = absurd (told refl)
cause_back known form (faults.Full need free) rest tells r told = rw (n32 known need r.0, n32 known free r.1) refl

plain_fault : (known : Known) (f : EditFault) → all_plain (fault_words f) ≡ true
plain_fault known (causes.NoPattern p) = plain_numbers known (1 ∷ p ∷ [])
plain_fault known (causes.NoRow row rows) = plain_numbers known (2 ∷ row ∷ rows ∷ [])
plain_fault known (causes.NoChannel ch) = plain_numbers known (3 ∷ ch ∷ [])
plain_fault known (causes.NoOrder position) = plain_numbers known (4 ∷ position ∷ [])
plain_fault known (causes.NoInstrument i) = plain_numbers known (5 ∷ i ∷ [])
plain_fault known (causes.Range field found) =
    words_append (numbers (6 ∷ field ∷ [])) (signed_decimal found ∷ []) (plain_numbers known (6 ∷ field ∷ []))
    (one_word (signed_decimal found) (known.plain_signed found))
plain_fault known (causes.TooMany what count) = plain_numbers known (7 ∷ what ∷ count ∷ [])
plain_fault known (causes.NoSample i s) = plain_numbers known (8 ∷ i ∷ s ∷ [])
plain_fault known (causes.Cut from to frames) = plain_numbers known (9 ∷ from ∷ to ∷ frames ∷ [])

plain_place : (known : Known) (form at : ℕ) → all_plain (place_words form at) ≡ true
plain_place known form at = cond_both (form == 1) [] (numbers (at ∷ [])) (λ ws. all_plain ws ≡ true) (λ so. refl)
    (λ other. plain_numbers known (at ∷ []))

pub plain_cause : (known : Known) (form : ℕ) (c : CommitFault) → all_plain (cause_words form c) ≡ true
plain_cause known form (faults.Edit at f) = words_append (place_words form at) (fault_words f) (plain_place known form at)
    (plain_fault known f)
plain_cause known form (faults.Worn version) = plain_numbers known (version ∷ [])
plain_cause known form faults.NoMemory = refl
plain_cause known form (faults.Full need free) = plain_numbers known (need ∷ free ∷ [])

-- ---- lines with edits

-- a text gives these edits in this form
abbrev pub TextGives : ℕ → List Edit → Type 0
TextGives form edits = batch_of (most_edits form) (batch_text edits) ≡ Some edits

batch_back : (form : ℕ) (edits : List Edit) → TextGives form edits → batch form (split 32 (batch_text edits)) ≡ Some (edits, [])
unfolding batch
batch_back form edits gives =
    ap (λ text. with_rest [] (batch_of (most_edits form) text)) (join_with_byte-slice_split 32 (batch_text edits)) ∙ ap (with_rest []) gives

pub entry_back : (known : Known) (form : ℕ) (e : Entry) → EntryHasRanges e → TextGives form e.batch
    → said (entry form) (entry_line e) ≡ Some e
unfolding word
entry_back known form e r gives =
    let ns = e.version ∷ e.hand ∷ e.seq ∷ [] in
    let ws = numbers ns in
    let text = batch_text e.batch in
    let taken : entry form (codes "c" ∷ (ws ++ split 32 text)) ≡ Some (e, []) =
    rw (n32 known e.version r.0, n8 known e.hand r.1, n32 known e.seq r.2, batch_back form e.batch gives) refl in
    ap (λ words. if_over (entry form words)) (split_before (codes "c") ws text refl (plain_numbers known ns)) ∙ ap if_over taken

pub refusal_back : (known : Known) (form : ℕ) (f : Refusal) → RefusalHasRanges f → f.cause ≢ faults.NoMemory → TellsPlace form f.cause
    → TextGives form f.batch → said (refusal form) (refusal_line form f) ≡ Some f
unfolding word
refusal_back known form f r told tells gives =
    let ns = numbers (f.hand ∷ f.seq ∷ []) in
    let ws = ns ++ cause_words form f.cause in
    let text = batch_text f.batch in
    let taken : refusal form (codes "r" ∷ (ws ++ split 32 text)) ≡ Some (f, []) =
    rw (
      n8 known f.hand r.0,
      n32 known f.seq r.1,
      cause_back known form f.cause (split 32 text) tells r.3 told,
      batch_back form f.batch gives,
    ) refl in
    let all = words_append ns (cause_words form f.cause) (plain_numbers known (f.hand ∷ f.seq ∷ [])) (plain_cause known form f.cause) in
    ap (λ words. if_over (refusal form words)) (split_before (codes "r") ws text refl all) ∙ ap if_over taken
