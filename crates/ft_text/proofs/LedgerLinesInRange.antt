-- What a line of a ledger says is in the ranges of the types, and can be written.
use Rattle.std.proofs.Common.{◌≡◌, ◌≢◌, ℕ, suc, ◌^◌, ◌<◌, ◌≤◌, ◌==◌, Bool, true, false, ◌&&◌, inl, inr, List, [], ◌∷◌, length, nat_le, codes, cond, Option, Some, None, Result, Ok, Err, refl, sym, ap, subst, ◌∙◌, arith, decimal}
use Rattle.std.specs.Prelude.{FitsSigned, bytes_eq}
use Rattle.std.specs.Int.{w64}
use Rattle.std.specs.List.{All, join_with_byte}
use Rattle.std.proofs.lemmas.Bool.{cases_Bool, cond-true, cond-false, and_parts, leb-true}
use Rattle.std.proofs.lemmas.List.Elements.{All-nil, All-cons}
use Rattle.ft_types.specs.declared.edit.Edit.{Edit}
use Rattle.ft_types.specs.Edits.{IsGivable}
use Rattle.ft_types.specs.declared.edit_fault.EditFault.{EditFault}
use Rattle.ft_types.specs.declared.edit_fault.EditFault.TheVariants as causes
use Rattle.ft_types.specs.declared.commit_fault.CommitFault.{CommitFault}
use Rattle.ft_types.specs.declared.commit_fault.CommitFault.TheVariants as faults
use Rattle.ft_types.specs.declared.journal.Entry.{Entry}
use Rattle.ft_types.specs.declared.journal.Refusal.{Refusal}
use Rattle.ft_types.specs.declared.tick_report.TickReport.{TickReport}
use Rattle.ft_text.specs.declared.record.Run.{Run}
use Rattle.ft_text.specs.declared.record.HandEnd.{HandEnd}
use Rattle.ft_text.specs.declared.record.SavedLine.{SavedLine}
use Rattle.ft_lines.specs.Values.{number_of, signed_of}
use Rattle.ft_lines.specs.Texts.{batch_text}
use Rattle.ft_lines.specs.Edits.{named}
use Rattle.ft_lines.specs.Lines.{this_word, line_of}
use Rattle.ft_text.specs.Record.{IsEndStatus, HasHandCause}
use Rattle.ft_types.specs.EditParts.{EditHasRanges}
use Rattle.ft_lines.specs.ReadBack.{IsBatch}
use Rattle.ft_text.specs.LedgerBack.{RunHasRanges, EntryHasRanges, FaultHasRanges, CauseHasRanges, RefusalHasRanges, TickHasRanges, HandHasRanges, SavedHasRanges, IsFirst}
use Rattle.ft_text.specs.LedgerWords.{Taking, give, follow, ◌>>=◌, with_rest, word, u8_word, u16_word, u32_word, u64_word, said, one_edit, then_others, each_edit, if_text, batch_of, most_edits, batch, play, entry, no_pattern, no_row, no_channel, no_order, no_instrument, range, too_many, no_sample, cut, wrong, fault_by, fault, place, edit_cause, worn_cause, full_cause, cause_readings, cause, refusal, tick, hand_from, hand_causes, hand, saved_name, saved, is_told, status_of, end}
use Rattle.ft_text.proofs.Cuts.{some_part}
use Rattle.ft_text.proofs.SplitsBack.{split}
use Rattle.ft_text.proofs.WordsExact.{passed, pair_is, with_rest_is}
use Rattle.ft_text.proofs.LinesExact.{taken_all}
use Rattle.ft_text.specs.Known.{Known}

-- what is taken is so, of whatever words
pub record Gives {A : Type 0} (P : A → Type 0) (taking : Taking A) : Type 0 where
  pub each : (words rest : List (List ℕ)) (x : A) → taking words ≡ Some (x, rest) → P x

gives_it : {A : Type 0} (P : A → Type 0) (x : A) → P x → Gives P (give x)
gives_it P x is = record { each = λ words rest y h. subst P (pair_is x y words rest h).0 is }

then : {A B : Type 0} (P : A → Type 0) (Q : B → Type 0) (first : Taking A) (next : A → Taking B) → Gives P first
    → ((x : A) → P x → Gives Q (next x)) → Gives Q (first >>= next)
then {A} {B} P Q first next f n = record { each = λ words rest y h. go words rest y (first words) refl h } where
  go : (words rest : List (List ℕ)) (y : B) (r : Option (A × List (List ℕ))) → first words ≡ r → follow next r ≡ Some (y, rest) → Q y
  go words rest y (Some taken) e h = (n taken.0 (f.each words taken.1 taken.0 e)).each taken.1 rest y h
  go words rest y None e h = absurd (cc)

word_gives : {A : Type 0} (P : A → Type 0) (value : List ℕ → Option A) → ((w : List ℕ) (x : A) → value w ≡ Some x → P x)
    → Gives P (word value)
unfolding word
word_gives {A} P value each = record { each = go } where
  found : (rest left : List (List ℕ)) (x : A) (w : List ℕ) (o : Option A) → value w ≡ o → with_rest left o ≡ Some (x, rest) → P x
  found rest left x w None e h = absurd (cc)
  found rest left x w (Some y) e h = subst P (pair_is y x left rest h).0 (each w y e)

  go : (words rest : List (List ℕ)) (x : A) → word value words ≡ Some (x, rest) → P x
  go [] rest x h = absurd (cc)
  go (w ∷ left) rest x h = found rest left x w (value w) refl h

abbrev Any : {A : Type 0} → A → Type 0
Any x = Unit {0}

any_word : {A : Type 0} (value : List ℕ → Option A) → Gives Any (word value)
any_word value = word_gives Any value (λ w x h. tt)

either_gives : {A : Type 0} (P : A → Type 0) (test : Bool) (a b : Taking A) → Gives P a → Gives P b → Gives P (cond test a b)
either_gives P true a b left right = left
either_gives P false a b left right = right

-- ---- numbers

number_gives : (known : Known) (most limit : ℕ) → most < limit → Gives (λ n. n < limit) (word (number_of most))
number_gives known most limit within = word_gives (λ n. n < limit) (number_of most)
    (λ w n h. omega (arith, within, known.number_within most n w h))

u8_gives : Known → Gives (λ n. n < 2 ^ 8) u8_word
u8_gives known = number_gives known 255 (2 ^ 8) (omega arith)

u16_gives : Known → Gives (λ n. n < 2 ^ 16) u16_word
u16_gives known = number_gives known 65535 (2 ^ 16) (omega arith)

u32_gives : Known → Gives (λ n. n < 2 ^ 32) u32_word
u32_gives known = number_gives known 4294967295 (2 ^ 32) (omega arith)

u64_gives : Known → Gives (λ n. n < 2 ^ 64) u64_word
u64_gives known = number_gives known 18446744073709551615 (2 ^ 64) (omega arith)

u8_then : (known : Known) {B : Type 0} {Q : B → Type 0} {next : ℕ → Taking B} → ((n : ℕ) → n < 2 ^ 8 → Gives Q (next n))
    → Gives Q (u8_word >>= next)
u8_then known {B} {Q} {next} each = then (λ n. n < 2 ^ 8) Q u8_word next (u8_gives known) each

u16_then : (known : Known) {B : Type 0} {Q : B → Type 0} {next : ℕ → Taking B} → ((n : ℕ) → n < 2 ^ 16 → Gives Q (next n))
    → Gives Q (u16_word >>= next)
u16_then known {B} {Q} {next} each = then (λ n. n < 2 ^ 16) Q u16_word next (u16_gives known) each

u32_then : (known : Known) {B : Type 0} {Q : B → Type 0} {next : ℕ → Taking B} → ((n : ℕ) → n < 2 ^ 32 → Gives Q (next n))
    → Gives Q (u32_word >>= next)
u32_then known {B} {Q} {next} each = then (λ n. n < 2 ^ 32) Q u32_word next (u32_gives known) each

u64_then : (known : Known) {B : Type 0} {Q : B → Type 0} {next : ℕ → Taking B} → ((n : ℕ) → n < 2 ^ 64 → Gives Q (next n))
    → Gives Q (u64_word >>= next)
u64_then known {B} {Q} {next} each = then (λ n. n < 2 ^ 64) Q u64_word next (u64_gives known) each

word_then : {A B : Type 0} {Q : B → Type 0} {next : A → Taking B} (value : List ℕ → Option A) → ((x : A) → Gives Q (next x))
    → Gives Q (word value >>= next)
word_then {A} {B} {Q} {next} value each = then Any Q (word value) next (any_word value) (λ x t. each x)

-- ---- batches

pub record IsBatchOf (form : ℕ) (edits : List Edit) : Type 0 where
  pub is : IsBatch edits
  pub old : form ≡ 1 → length edits ≡ 1

record AreEdits (count : ℕ) (edits : List Edit) : Type 0 where
  pub count_is : length edits ≡ count
  pub ranges : All EditHasRanges edits
  pub givable : All IsGivable edits

one_edit_is : (r : Result (Option (Option ℕ × List Edit)) ℕ) (edit : Edit) → one_edit r ≡ Some edit → r ≡ Ok (Some (None, edit ∷ []))
one_edit_is (Err at) edit h = absurd (cc)
one_edit_is (Ok None) edit h = absurd (cc)
one_edit_is (Ok (Some (Some time, edits))) edit h = absurd (cc)
one_edit_is (Ok (Some (None, []))) edit h = absurd (cc)
one_edit_is (Ok (Some (None, e ∷ []))) edit h = let same : e ≡ edit = cc in ap (λ e. Ok (Some (None, e ∷ []))) same
one_edit_is (Ok (Some (None, e ∷ f ∷ edits))) edit h = absurd (cc)

record IsBefore (edit : Option Edit) (others : Option (List Edit)) (edits : List Edit) : Type 0 where
  pub first : Edit
  pub rest : List Edit
  pub first_is : edit ≡ Some first
  pub rest_is : others ≡ Some rest
  pub both : edits ≡ first ∷ rest

are_before : (others : Option (List Edit)) (edit : Option Edit) (edits : List Edit) → then_others others edit ≡ Some edits
    → IsBefore edit others edits
are_before others None edits h = absurd (cc)
are_before None (Some edit) edits h = absurd (cc)
are_before (Some rest) (Some edit) edits h =
    let same : edits ≡ edit ∷ rest = cc in
    record { first = edit; rest = rest; first_is = refl; rest_is = refl; both = same }

each_are : (known : Known) (parts : List (List ℕ)) (edits : List Edit) → each_edit parts ≡ Some edits → AreEdits (length parts) edits
each_are known [] edits h =
    let same : [] ≡ edits = cc in
    subst (AreEdits 0) same (record { count_is = refl; ranges = All-nil EditHasRanges; givable = All-nil IsGivable })
each_are known (part ∷ parts) edits h =
    let are = are_before (each_edit parts) (one_edit (line_of 0 part)) edits h in
    let rest = each_are known parts are.rest are.rest_is in
    let is = known.lines_in_range 0 part None (are.first ∷ []) (one_edit_is (line_of 0 part) are.first are.first_is) in
    subst (AreEdits (length (part ∷ parts))) (sym are.both) (record {
      count_is = omega (arith, rest.count_is);
      ranges = All-cons EditHasRanges are.first are.rest (is.ranges 0 are.first (omega arith)) rest.ranges;
      givable = All-cons IsGivable are.first are.rest (is.givable 0 are.first (omega arith)) rest.givable;
    })

some_parts : (parts : List (List ℕ)) → (length parts == 0) ≡ false → 1 ≤ length parts
some_parts [] some = absurd (cc)
some_parts (part ∷ parts) some = omega arith

most_of_form : (form : ℕ) → (most_edits form ≤ 16) × (form ≡ 1 → most_edits form ≤ 1)
most_of_form form = elim (cases_Bool (form == 1)) [
  | inl so ↦
      let e : most_edits form ≡ 1 = cond-true (form == 1) 1 16 so in
      (omega (arith, e), λ is. omega (arith, e))
  | inr other ↦
      let e : most_edits form ≡ 16 = cond-false (form == 1) 1 16 other in
      (omega (arith, e), λ is. absurd (cc (other, ap (λ f. f == 1) is)))
]

texts_are : (known : Known) (form : ℕ) (text : List ℕ) (parts : List (List ℕ)) (edits : List Edit) → (length parts == 0) ≡ false
    → if_text (most_edits form) text (each_edit parts) ≡ Some edits → IsBatchOf form edits
texts_are known form text parts edits some h = go (each_edit parts) refl h where
  go : (o : Option (List Edit)) → each_edit parts ≡ o → if_text (most_edits form) text o ≡ Some edits → IsBatchOf form edits
  go None e k = absurd (cc)
  go (Some es) e k = elim (cases_Bool (nat_le (length es) (most_edits form) && bytes_eq (batch_text es) text)) [
    | inl so ↦
        let found : Some es ≡ Some edits = sym (cond-true _ (Some es) None so) ∙ k in
        let same : es ≡ edits = cc in
        let few = leb-true (length es) (most_edits form)
        (and_parts (nat_le (length es) (most_edits form)) (bytes_eq (batch_text es) text) so).0 in
        let are = each_are known parts es e in
        let most = most_of_form form in
        let one : 1 ≤ length es = omega (arith, are.count_is, some_parts parts some) in
        subst (IsBatchOf form) same (record {
          is = record { some = one; few = omega (arith, few, most.0); ranges = are.ranges; givable = are.givable };
          old = λ first. omega (arith, few, most.1 first, one);
        })
    | inr other ↦ absurd (cc (cond-false _ (Some es) None other, k))
  ]

batch_gives : (known : Known) (form : ℕ) → Gives (IsBatchOf form) (batch form)
unfolding batch batch_of
batch_gives known form = record {
  each = λ words rest edits h.
      let text = join_with_byte 32 words in
      texts_are known form text (split 59 text) edits (some_part 59 text) (with_rest_is (batch_of (most_edits form) text) edits rest h).0;
}

batch_then : (known : Known) {B : Type 0} {Q : B → Type 0} {form : ℕ} {next : List Edit → Taking B}
    → ((edits : List Edit) → IsBatchOf form edits → Gives Q (next edits)) → Gives Q (batch form >>= next)
batch_then known {B} {Q} {form} {next} each = then (IsBatchOf form) Q (batch form) next (batch_gives known form) each

-- ---- causes

no_pattern_gives : Known → Gives FaultHasRanges no_pattern
no_pattern_gives known = u8_then known (λ p p'. gives_it FaultHasRanges (causes.NoPattern p) p')

no_row_gives : Known → Gives FaultHasRanges no_row
no_row_gives known = u32_then known
    (λ row row'. u16_then known (λ rows rows'. gives_it FaultHasRanges (causes.NoRow row rows) (row', rows')))

no_channel_gives : Known → Gives FaultHasRanges no_channel
no_channel_gives known = u16_then known (λ ch ch'. gives_it FaultHasRanges (causes.NoChannel ch) ch')

no_order_gives : Known → Gives FaultHasRanges no_order
no_order_gives known = u16_then known (λ position position'. gives_it FaultHasRanges (causes.NoOrder position) position')

no_instrument_gives : Known → Gives FaultHasRanges no_instrument
no_instrument_gives known = u8_then known (λ i i'. gives_it FaultHasRanges (causes.NoInstrument i) i')

range_gives : Known → Gives FaultHasRanges range
range_gives known = u8_then known (λ field field'. then (FitsSigned w64) FaultHasRanges (word (signed_of 9223372036854775807))
    (λ found. give (causes.Range field found)) (word_gives (FitsSigned w64) (signed_of 9223372036854775807) known.i64_within)
    (λ found found'. gives_it FaultHasRanges (causes.Range field found) (field', found')))

too_many_gives : Known → Gives FaultHasRanges too_many
too_many_gives known = u8_then known
    (λ what what'. u32_then known (λ count count'. gives_it FaultHasRanges (causes.TooMany what count) (what', count')))

no_sample_gives : Known → Gives FaultHasRanges no_sample
no_sample_gives known = u8_then known (λ i i'. u8_then known (λ s s'. gives_it FaultHasRanges (causes.NoSample i s) (i', s')))

cut_gives : Known → Gives FaultHasRanges cut
cut_gives known = u32_then known (λ from from'. u64_then known (λ to to'. u32_then known (λ frames frames'.
    gives_it FaultHasRanges (causes.Cut from to frames) (from', to', frames'))))

wrong_gives : {A : Type 0} (P : A → Type 0) → Gives P wrong
wrong_gives P = record { each = λ words rest x h. absurd (cc) }

or_else : (n k : ℕ) (a b : Taking EditFault) → Gives FaultHasRanges a → Gives FaultHasRanges b → Gives FaultHasRanges (cond (n == k) a b)
or_else n k a b left right = either_gives FaultHasRanges (n == k) a b left right

fault_by_gives : (known : Known) (n : ℕ) → Gives FaultHasRanges (fault_by n)
fault_by_gives known n =
    or_else n 1 no_pattern _ (no_pattern_gives known)
    (or_else n 2 no_row _ (no_row_gives known) (or_else n 3 no_channel _ (no_channel_gives known)
    (or_else n 4 no_order _ (no_order_gives known)
    (or_else n 5 no_instrument _ (no_instrument_gives known) (or_else n 6 range _ (range_gives known)
    (or_else n 7 too_many _ (too_many_gives known) (or_else n 8 no_sample _ (no_sample_gives known) (or_else n 9 cut wrong (cut_gives known)
    (wrong_gives FaultHasRanges)))))))))

fault_gives : Known → Gives FaultHasRanges fault
unfolding fault
fault_gives known = u8_then known (λ n n'. fault_by_gives known n)

-- ranges, no running out of memory, and the first edit in form 1
pub record IsCause (form : ℕ) (c : CommitFault) : Type 0 where
  pub ranges : CauseHasRanges c
  pub told : c ≢ faults.NoMemory
  pub old : form ≡ 1 → IsFirst c

abbrev IsPlace : ℕ → ℕ → Type 0
IsPlace form at = (at < 2 ^ 8) × (form ≡ 1 → at ≡ 0)

place_gives : (known : Known) (form : ℕ) → Gives (IsPlace form) (place form)
place_gives known form = elim (cases_Bool (form == 1)) [
  | inl so ↦ subst (Gives (IsPlace form)) (sym (cond-true (form == 1) (give 0) u8_word so)) (gives_it (IsPlace form) 0 (
    omega arith,
    λ first. refl,
  ))
  | inr other ↦ subst (Gives (IsPlace form)) (sym (cond-false (form == 1) (give 0) u8_word other))
      (word_gives (IsPlace form) (number_of 255)
      (λ w at h. (omega (arith, known.number_within 255 at w h), λ first. absurd (cc (other, ap (λ f. f == 1) first)))))
]

edit_told : (at : ℕ) (why : EditFault) → faults.Edit at why ≢ faults.NoMemory
edit_told at why e = cc e

worn_told : (version : ℕ) → faults.Worn version ≢ faults.NoMemory
worn_told version e = cc e

full_told : (need free : ℕ) → faults.Full need free ≢ faults.NoMemory
full_told need free e = cc e

edit_cause_gives : (known : Known) (form : ℕ) → Gives (IsCause form) (edit_cause form)
edit_cause_gives known form = then (IsPlace form) (IsCause form) (place form) (λ at. fault >>= (λ why. give (faults.Edit at why)))
    (place_gives known form) (λ at is. then FaultHasRanges (IsCause form) fault (λ why. give (faults.Edit at why)) (fault_gives known)
    (λ why ranges. gives_it (IsCause form) (faults.Edit at why)
    (record { ranges = (is.0, ranges); told = edit_told at why; old = is.1 })))

worn_gives : (known : Known) (form : ℕ) → Gives (IsCause form) worn_cause
worn_gives known form = u32_then known (λ version small. gives_it (IsCause form) (faults.Worn version)
    (record { ranges = small; told = worn_told version; old = λ first. tt }))

full_gives : (known : Known) (form : ℕ) → Gives (IsCause form) full_cause
full_gives known form = u32_then known (λ need need'. u32_then known (λ free free'. gives_it (IsCause form) (faults.Full need free)
    (record { ranges = (need', free'); told = full_told need free; old = λ first. tt })))

abbrev RowsGive : ℕ → List (List ℕ × Taking CommitFault) → Type 0
RowsGive form [] = Unit {0}
RowsGive form (row ∷ rows) = Gives (IsCause form) row.1 × RowsGive form rows

named_gives : (form : ℕ) (rows : List (List ℕ × Taking CommitFault)) → RowsGive form rows → (w : List ℕ) (taking : Taking CommitFault)
    → named rows w ≡ Some taking → Gives (IsCause form) taking
named_gives form [] give w taking h = absurd (cc)
named_gives form (row ∷ rows) give w taking h = elim (cases_Bool (bytes_eq w row.0)) [
  | inl so ↦
      let e : Some row.1 ≡ Some taking = sym (cond-true (bytes_eq w row.0) (Some row.1) (named rows w) so) ∙ h in
      let same : row.1 ≡ taking = cc in
      subst (Gives (IsCause form)) same give.0
  | inr other ↦ named_gives form rows give.1 w taking (sym (cond-false (bytes_eq w row.0) (Some row.1) (named rows w) other) ∙ h)
]

cause_gives : (known : Known) (form : ℕ) → Gives (IsCause form) (cause form)
unfolding cause
cause_gives known form = then (Gives (IsCause form)) (IsCause form) (word (named (cause_readings form))) (λ taking. taking)
    (word_gives (Gives (IsCause form)) (named (cause_readings form))
    (named_gives form (cause_readings form) (edit_cause_gives known form, (worn_gives known form, (full_gives known form, tt)))))
    (λ taking gives. gives)

-- ---- lines

said_gives : {A : Type 0} (P : A → Type 0) (taking : Taking A) → Gives P taking → (line : List ℕ) (x : A) → said taking line ≡ Some x → P x
said_gives P taking gives line x h = gives.each (split 32 line) [] x (taken_all (taking (split 32 line)) x h)

play_gives : Known → Gives RunHasRanges play
play_gives known = word_then (this_word (codes "play")) (λ name. u32_then known (λ rate rate'. u32_then known (λ seconds seconds'.
    u16_then known (λ segments segments'.
    u8_then known (λ channels channels'. gives_it RunHasRanges _ (rate', seconds', segments', channels'))))))

pub play_in_range : (known : Known) (line : List ℕ) (run : Run) → said play line ≡ Some run → RunHasRanges run
play_in_range known = said_gives RunHasRanges play (play_gives known)

pub record IsEntry (form : ℕ) (e : Entry) : Type 0 where
  pub ranges : EntryHasRanges e
  pub old : form ≡ 1 → length e.batch ≡ 1

entry_gives : (known : Known) (form : ℕ) → Gives (IsEntry form) (entry form)
entry_gives known form = word_then (this_word (codes "c"))
    (λ name. u32_then known (λ version version'. u8_then known (λ hand hand'. u32_then known (λ seq seq'.
    batch_then known (λ edits are. gives_it (IsEntry form) _ (record { ranges = (version', hand', seq', are.is); old = are.old }))))))

pub entry_in_range : (known : Known) (form : ℕ) (line : List ℕ) (e : Entry) → said (entry form) line ≡ Some e → IsEntry form e
entry_in_range known form = said_gives (IsEntry form) (entry form) (entry_gives known form)

pub record IsRefusal (form : ℕ) (f : Refusal) : Type 0 where
  pub ranges : RefusalHasRanges f
  pub told : f.cause ≢ faults.NoMemory
  pub old : form ≡ 1 → (length f.batch ≡ 1) × IsFirst f.cause

refusal_gives : (known : Known) (form : ℕ) → Gives (IsRefusal form) (refusal form)
refusal_gives known form = word_then (this_word (codes "r")) (λ name. u8_then known (λ hand hand'. u32_then known (λ seq seq'.
    then (IsCause form) (IsRefusal form) (cause form) _ (cause_gives known form) (λ why is.
    batch_then known (λ edits are. gives_it (IsRefusal form) _ (record {
      ranges = (hand', seq', are.is, is.ranges);
      told = is.told;
      old = λ first. (are.old first, is.old first);
    }))))))

pub refusal_in_range : (known : Known) (form : ℕ) (line : List ℕ) (f : Refusal) → said (refusal form) line ≡ Some f → IsRefusal form f
refusal_in_range known form = said_gives (IsRefusal form) (refusal form) (refusal_gives known form)

tick_gives : (known : Known) (n : ℕ) → Gives TickHasRanges (tick n)
tick_gives known n = word_then (this_word (codes "t"))
    (λ name. word_then (this_word (decimal n)) (λ number. u32_then known (λ version version'.
    u16_then known (λ order order'. u16_then known (λ row row'. u16_then known (λ count count'. u32_then known (λ frames frames'.
    gives_it TickHasRanges _ (version', order', row', count', frames'))))))))

pub tick_in_range : (known : Known) (n : ℕ) (line : List ℕ) (t : TickReport) → said (tick n) line ≡ Some t → TickHasRanges t
tick_in_range known n = said_gives TickHasRanges (tick n) (tick_gives known n)

cause_number : (rows : List (List ℕ × ℕ)) → All (λ row. (1 ≤ row.1) × (row.1 ≤ 4)) rows → (w : List ℕ) (c : ℕ) → named rows w ≡ Some c
    → (1 ≤ c) × (c ≤ 4)
cause_number [] all w c h = absurd (cc)
cause_number (row ∷ rows) all w c h = elim (cases_Bool (bytes_eq w row.0)) [
  | inl so ↦
      let e : Some row.1 ≡ Some c = sym (cond-true (bytes_eq w row.0) (Some row.1) (named rows w) so) ∙ h in
      let same : row.1 ≡ c = cc in
      subst (λ c. (1 ≤ c) × (c ≤ 4)) same (all 0 row (omega arith))
  | inr other ↦ cause_number rows (λ k d inside. all (suc k) d (omega (arith, inside))) w c
      (sym (cond-false (bytes_eq w row.0) (Some row.1) (named rows w) other) ∙ h)
]

pub record IsHand (least : ℕ) (e : HandEnd) : Type 0 where
  pub ranges : HandHasRanges e
  pub cause : HasHandCause e
  pub above : least ≤ e.hand

abbrev Row : List ℕ × ℕ → Type 0
Row row = (1 ≤ row.1) × (row.1 ≤ 4)

rows_are : All Row hand_causes
rows_are =
    let limit : List (List ℕ × ℕ) = (codes "limit", 3) ∷ (codes "memory", 4) ∷ [] in
    All-cons Row (codes "malformed", 1) ((codes "failed", 2) ∷ limit) (omega arith, omega arith)
    (All-cons Row (codes "failed", 2) limit (omega arith, omega arith)
    (All-cons Row (codes "limit", 3) ((codes "memory", 4) ∷ []) (omega arith, omega arith)
    (All-cons Row (codes "memory", 4) [] (omega arith, omega arith) (All-nil Row))))

abbrev IsHandNumber : ℕ → ℕ → Type 0
IsHandNumber least n = (n < 2 ^ 8) × (least ≤ n)

hand_number_is : (known : Known) (least : ℕ) (w : List ℕ) (n : ℕ) → hand_from least w ≡ Some n → IsHandNumber least n
hand_number_is known least w n h =
    let is = passed (λ hand. nat_le least hand) (number_of 255 w) n h in
    (omega (arith, known.number_within 255 n w is.0), leb-true least n is.1)

hand_gives : (known : Known) (least : ℕ) → Gives (IsHand least) (hand least)
hand_gives known least = word_then (this_word (codes "h")) (λ name. then (IsHandNumber least) (IsHand least) (word (hand_from least)) _
    (word_gives (IsHandNumber least) (hand_from least) (hand_number_is known least)) (λ n is.
    then (λ c. (1 ≤ c) × (c ≤ 4)) (IsHand least) (word (named hand_causes)) _
    (word_gives (λ c. (1 ≤ c) × (c ≤ 4)) (named hand_causes) (cause_number hand_causes rows_are)) (λ why told.
    u32_then known (λ at at'. gives_it (IsHand least) _ (record { ranges = (is.0, at'); cause = told; above = is.1 })))))

pub hand_in_range : (known : Known) (least : ℕ) (line : List ℕ) (e : HandEnd) → said (hand least) line ≡ Some e → IsHand least e
hand_in_range known least = said_gives (IsHand least) (hand least) (hand_gives known least)

pub record IsSaved (form : ℕ) (s : SavedLine) : Type 0 where
  pub ranges : SavedHasRanges s
  pub new : form ≡ 1 → ⊥

name_of_form : (form : ℕ) (w name : List ℕ) → saved_name form w ≡ Some name → form ≡ 1 → ⊥
name_of_form form w name h first = cc (cond-true (form == 1) None (this_word (codes "s") w) (ap (λ f. f == 1) first), h)

saved_gives : (known : Known) (form : ℕ) → Gives (IsSaved form) (saved form)
saved_gives known form = then (λ name. form ≡ 1 → ⊥) (IsSaved form) (word (saved_name form)) _
    (word_gives (λ name. form ≡ 1 → ⊥) (saved_name form) (name_of_form form)) (λ name new.
    u32_then known (λ version version'. u32_then known (λ bytes bytes'.
    gives_it (IsSaved form) _ (record { ranges = (version', bytes'); new = new }))))

pub saved_in_range : (known : Known) (form : ℕ) (line : List ℕ) (s : SavedLine) → said (saved form) line ≡ Some s → IsSaved form s
saved_in_range known form = said_gives (IsSaved form) (saved form) (saved_gives known form)

pub record IsStatus (form status : ℕ) : Type 0 where
  pub told : IsEndStatus status
  pub old : form ≡ 1 → status ≢ 10

told_is : (form status : ℕ) → is_told form status ≡ true → IsStatus form status
told_is form status h = record { told = grind (arith, h); old = λ first ten. cc (h, first, ten) }

end_gives : (form ticks : ℕ) → Gives (IsStatus form) (end form ticks)
end_gives form ticks = word_then (this_word (codes "end")) (λ name. then (IsStatus form) (IsStatus form) (word (status_of form)) _
    (word_gives (IsStatus form) (status_of form) (λ w status h. told_is form status (passed (is_told form) (number_of 255 w) status h).1))
    (λ status is. word_then (this_word (decimal ticks)) (λ count. gives_it (IsStatus form) status is)))

pub end_in_range : (form ticks : ℕ) (line : List ℕ) (status : ℕ) → said (end form ticks) line ≡ Some status → IsStatus form status
end_in_range form ticks = said_gives (IsStatus form) (end form ticks) (end_gives form ticks)
