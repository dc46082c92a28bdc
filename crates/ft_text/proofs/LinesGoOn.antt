-- What is read of a ledger can be written, and from the lines before a wrong one a ledger does go
-- on.
use Rattle.std.proofs.Common.{◌≡◌, ◌≢◌, ℕ, suc, ◌+◌, ◌<◌, ◌≤◌, ◌==◌, false, ◌⊎◌, inl, inr, All, List, [], ◌∷◌, ◌++◌, length, map, Option, Some, None, Result, Ok, Err, refl, sym, ap, subst, ◌∙◌, arith, append_assoc, append-nil}
use Rattle.std.specs.Prelude.{IfSome}
use Rattle.std.specs.List.{onto_first, join_with_byte}
use Rattle.std.proofs.lemmas.Bool.{cases_Bool, cond-true, cond-false, eqb-true}
use Rattle.std.proofs.lemmas.List.{length-append}
use Rattle.std.proofs.lemmas.List.Concat.{flat_map-append}
use Rattle.std.proofs.lemmas.List.Elements.{All-nil, All-cons, All-head, All-tail}
use Rattle.std.proofs.lemmas.List.Splits.{slice_split-cons_yes, slice_split-cons_no, join_with_byte-slice_split}
use Rattle.ft_types.specs.declared.journal.Entry.{Entry}
use Rattle.ft_types.specs.declared.journal.Refusal.{Refusal}
use Rattle.ft_types.specs.declared.tick_report.TickReport.{TickReport}
use Rattle.ft_text.specs.declared.record.Run.{Run}
use Rattle.ft_text.specs.declared.record.HandEnd.{HandEnd}
use Rattle.ft_text.specs.declared.record.SavedLine.{SavedLine}
use Rattle.ft_text.specs.Record.{LedgerAccount, IsTellable, CanBeEntered, CanBeRefused, HasHandCause, Ascend}
use Rattle.ft_text.specs.Ledger.{head_line, play_line, entry_line, refusal_line, tick_line, tick_lines, hand_line, saved_line, saved_lines, end_line, ledger_lines, ended, joined_lines, ledger_text}
use Rattle.ft_text.specs.LedgerWords.{said, head, play, entry, refusal, tick, hand, saved, end}
use Rattle.ft_lines.specs.Sequence.{follow}
use Rattle.ft_text.specs.LedgerReading.{LedgerPlace, line_number, one_line, line_at, line_or_wrong, lines_from, while_some, many, maybe_line, none_or, is_end, over, ledger, ledger_start, ledger_of}
use Rattle.ft_text.specs.LedgerBack.{RunHasRanges, EntryHasRanges, RefusalHasRanges, TickHasRanges, HandHasRanges, SavedHasRanges, AccountHasRanges, IsFirst, IsOld}
use Rattle.ft_text.specs.LedgerExact.{IsLedgerOf, AreLines, GoesOn}
use Rattle.ft_text.proofs.Cuts.{some_part}
use Rattle.ft_text.proofs.SplitsBack.{split}
use Rattle.ft_text.proofs.LedgerPartsBack.{some_behind}
use Rattle.ft_text.proofs.LedgerWhole.{whole_back, in_form_1, in_form_2, all_too}
use Rattle.ft_text.proofs.LinesExact.{head_line_is, play_line_is, entry_line_is, refusal_line_is, tick_line_is, hand_line_is, saved_line_is, end_line_is}
use Rattle.ft_text.proofs.WholeExact.{pair_ok, one_exact, written, lines_exact, written_map, written_hands, written_ticks, valued, made_of, from_end, from_saved, from_hands, from_ticks, from_refusals, from_entries, from_play, whole_exact}
use Rattle.ft_text.proofs.Settled.{fault_is}
use Rattle.ft_text.proofs.LedgerLinesInRange.{play_in_range, IsEntry, entry_in_range, IsRefusal, refusal_in_range, tick_in_range, hand_in_range, IsSaved, saved_in_range, IsStatus, end_in_range}
use Rattle.ft_text.specs.Known.{Known}

-- ---- accounts of a form

pub record Fits (form : ℕ) (a : LedgerAccount) : Type 0 where
  pub least : 1 ≤ form
  pub most : form ≤ 2
  pub told : IsTellable a
  pub ranges : AccountHasRanges a
  pub old : form ≡ 1 → IsOld a

abbrev IsEnd : HandEnd → Type 0
IsEnd end = HandHasRanges end × HasHandCause end

-- the parts of an account that were read in a form
record Suits (form : ℕ) (run : Run) (es : List Entry)
    (rs : List Refusal) (ts : List TickReport) (hs : List HandEnd)
    (s : Option SavedLine) : Type 0 where
  pub least : 1 ≤ form
  pub most : form ≤ 2
  pub run_is : RunHasRanges run
  pub entries : All (IsEntry form) es
  pub refusals : All (IsRefusal form) rs
  pub ticks : All TickHasRanges ts
  pub hands : All IsEnd hs
  pub ascend : Ascend 0 hs
  pub saved_is : IfSome s (IsSaved form)

saved_ranges : (form : ℕ) (s : Option SavedLine) → IfSome s (IsSaved form) → IfSome s SavedHasRanges
saved_ranges form None is = tt
saved_ranges form (Some s) is = is.ranges

none_saved : (form : ℕ) (s : Option SavedLine) → IfSome s (IsSaved form) → form ≡ 1 → s ≡ None
none_saved form None is first = refl
none_saved form (Some s) is first = absurd (is.new first)

fits : (form : ℕ) (run : Run) (es : List Entry) (rs : List Refusal) (ts : List TickReport) (hs : List HandEnd) (s : Option SavedLine)
    (status : ℕ) → Suits form run es rs ts hs s → IsStatus form status → Fits form (made_of run es rs ts hs s status)
fits form run es rs ts hs s status suits is = record {
  least = suits.least;
  most = suits.most;
  told = record {
    status = is.told;
    entries = all_too (IsEntry form) CanBeEntered es (λ e is. (is.ranges.3).givable) suits.entries;
    refusals = all_too (IsRefusal form) CanBeRefused rs (λ f is. ((is.ranges.2).givable, is.told)) suits.refusals;
    ascending = suits.ascend;
    causes = all_too IsEnd HasHandCause hs (λ e is. is.1) suits.hands;
  };
  ranges = record {
    run = suits.run_is;
    entries = all_too (IsEntry form) EntryHasRanges es (λ e is. is.ranges) suits.entries;
    refusals = all_too (IsRefusal form) RefusalHasRanges rs (λ f is. is.ranges) suits.refusals;
    ticks = suits.ticks;
    hands = all_too IsEnd HandHasRanges hs (λ e is. is.0) suits.hands;
    saved = saved_ranges form s suits.saved_is;
  };
  old = λ first. record {
    entries = all_too (IsEntry form) (λ e. length e.batch ≡ 1) es (λ e is. is.old first) suits.entries;
    refusals = all_too (IsRefusal form) (λ f. (length f.batch ≡ 1) × IsFirst f.cause) rs (λ f is. is.old first) suits.refusals;
    saved = none_saved form s suits.saved_is first;
    status = is.old first;
  };
}

ended_well : (form : ℕ) → IsStatus form 0
ended_well form = record { told = inl refl; old = λ first. λ ten. absurd (omega arith) }

-- ---- where a reading is

-- these lines are before a place, and something behind it
record At (parts : List (List ℕ)) (p : LedgerPlace) (before : List (List ℕ)) : Type 0 where
  pub cut : parts ≡ before ++ p.left
  pub some : (length p.left == 0) ≡ false
  pub count : p.at ≡ length before

-- a wrong line behind some that a ledger goes on from
record Stopped (parts : List (List ℕ)) (n : ℕ) : Type 0 where
  pub before : List (List ℕ)
  pub left : List (List ℕ)
  pub cut : parts ≡ before ++ left
  pub some : (length left == 0) ≡ false
  pub count : n ≡ line_number (length before)
  pub form : ℕ
  pub other : List (List ℕ)
  pub account : LedgerAccount
  pub lines : ledger_lines form account ≡ before ++ other
  pub fit : Fits form account

-- what comes of a reading in a form
abbrev OutcomeIn : ℕ → List (List ℕ) → Result (LedgerAccount × LedgerPlace) ℕ → Type 0
OutcomeIn form parts (Ok read) = Fits form read.0
OutcomeIn form parts (Err n) = Stopped parts n

-- what comes of a reading of a ledger from its front on
abbrev Outcome : LedgerPlace → List (List ℕ) → Result (LedgerAccount × LedgerPlace) ℕ → Type 0
Outcome p parts (Ok read) = (form : ℕ) × (q : LedgerPlace) × (one_line (said head) p ≡ Ok (form, q)) × Fits form read.0
Outcome p parts (Err n) = Stopped parts n

in_some_form : (p q : LedgerPlace) (form : ℕ) (parts : List (List ℕ)) (r : Result (LedgerAccount × LedgerPlace) ℕ)
    → one_line (said head) p ≡ Ok (form, q)
    → OutcomeIn form parts r → Outcome p parts r
in_some_form p q form parts (Ok read) e fit = (form, q, e, fit)
in_some_form p q form parts (Err n) e stop = stop

stopped_at : (parts before other : List (List ℕ)) (p : LedgerPlace) (n form : ℕ) (a : LedgerAccount) → At parts p before
    → n ≡ line_number p.at
    → ledger_lines form a ≡ before ++ other → Fits form a → Stopped parts n
stopped_at parts before other p n form a here counted lines fit = record {
  before = before;
  left = p.left;
  cut = here.cut;
  some = here.some;
  count = counted ∙ ap line_number here.count;
  form = form;
  other = other;
  account = a;
  lines = lines;
  fit = fit;
}

-- ---- one line

record Moved (p q : LedgerPlace) : Type 0 where
  pub at : q.at ≡ p.at + 1
  pub some : (length q.left == 0) ≡ false

one_moves : {A : Type 0} (value : List ℕ → Option A) (p q : LedgerPlace) (x : A) → one_line value p ≡ Ok (x, q) → Moved p q
unfolding one_line
one_moves {A} value p q x h = go p.left h where
  line_go : (rest : List (List ℕ)) (o : Option A) → (length rest == 0) ≡ false → line_or_wrong p.at rest o ≡ Ok (x, q) → Moved p q
  line_go rest None some k = absurd (cc)
  line_go rest (Some y) some k =
      let e = pair_ok y x (record { at = p.at + 1; left = rest }) q k in
      subst (Moved p) e.1 (record { at = refl; some = some })

  go : (left : List (List ℕ)) → line_at value p.at left ≡ Ok (x, q) → Moved p q
  go [] k = absurd (cc)
  go (line ∷ rest) k =
      let wrong : Result (A × LedgerPlace) ℕ = Err (line_number p.at) in
      elim (cases_Bool (length rest == 0)) [
        | inl so ↦ absurd (cc (cond-true (length rest == 0) wrong (line_or_wrong p.at rest (value line)) so, k))
        | inr other ↦ line_go rest (value line) other
            (sym (cond-false (length rest == 0) wrong (line_or_wrong p.at rest (value line)) other) ∙ k)
      ]

one_stops : {A : Type 0} (value : List ℕ → Option A) (p : LedgerPlace) (n : ℕ) → one_line value p ≡ Err n → n ≡ line_number p.at
unfolding one_line
one_stops {A} value p n h = go p.left h where
  line_go : (rest : List (List ℕ)) (o : Option A) → line_or_wrong p.at rest o ≡ Err n → n ≡ line_number p.at
  line_go rest None k = cc
  line_go rest (Some y) k = absurd (cc)

  go : (left : List (List ℕ)) → line_at value p.at left ≡ Err n → n ≡ line_number p.at
  go [] k = cc
  go (line ∷ rest) k =
      let wrong : Result (A × LedgerPlace) ℕ = Err (line_number p.at) in
      elim (cases_Bool (length rest == 0)) [
        | inl so ↦ cc (cond-true (length rest == 0) wrong (line_or_wrong p.at rest (value line)) so, k)
        | inr other ↦ line_go rest (value line) (sym (cond-false (length rest == 0) wrong (line_or_wrong p.at rest (value line)) other) ∙ k)
      ]

-- the place behind a line
at_next : (parts before : List (List ℕ)) (line : List ℕ) (p q : LedgerPlace) → At parts p before → p.left ≡ line ∷ q.left → Moved p q
    → At parts q (before ++ line ∷ [])
at_next parts before line p q here cut moved = record {
  cut = here.cut ∙ ap (λ l. before ++ l) cut ∙ sym (append_assoc before (line ∷ []) q.left);
  some = moved.some;
  count = omega (arith, moved.at, here.count, length-append before (line ∷ []));
}

-- ---- several lines

lines_some : {S A : Type 0} (value : S → List ℕ → Option A) (moved : S → A → S) (state : S) (parts : List (List ℕ))
    → (length parts == 0) ≡ false → (length (lines_from value moved state parts).1 == 0) ≡ false
unfolding lines_from
lines_some value moved state [] some = absurd (cc)
lines_some {S} {A} value moved state (line ∷ rest) some =
    let here = line ∷ rest in
    let none : List A × List (List ℕ) = ([], here) in
    let more : A → List A × List (List ℕ) = λ x. lines_from value moved (moved state x) rest in
    let go : (o : Option A) → (length rest == 0) ≡ false → (length (while_some here o more).1 == 0) ≡ false =
    λ o. elim o as (λ o. (length rest == 0) ≡ false → (length (while_some here o more).1 == 0) ≡ false) [
      | None ↦ λ other. some
      | Some x ↦ λ other. lines_some value moved (moved state x) rest other
    ] in
    elim (cases_Bool (length rest == 0)) [
      | inl so ↦ subst (λ r.
          (length r.1 == 0) ≡ false) (sym (cond-true (length rest == 0) none (while_some here (value state line) more) so))
          some
      | inr other ↦ subst (λ r. (length r.1 == 0) ≡ false)
          (sym (cond-false (length rest == 0) none (while_some here (value state line) more) other)) (go (value state line) other)
    ]

lines_all : {S A : Type 0} (P : A → Type 0) (value : S → List ℕ → Option A) (moved : S → A → S)
    → ((s : S) (l : List ℕ) (x : A) → value s l ≡ Some x → P x)
    → (state : S) (parts : List (List ℕ)) → All P (lines_from value moved state parts).0
unfolding lines_from
lines_all P value moved each state [] = All-nil P
lines_all {S} {A} P value moved each state (line ∷ rest) =
    let here = line ∷ rest in
    let none : List A × List (List ℕ) = ([], here) in
    let more : A → List A × List (List ℕ) = λ x. lines_from value moved (moved state x) rest in
    let go : (o : Option A) → value state line ≡ o → All P (while_some here o more).0 =
    λ o. elim o as (λ o. value state line ≡ o → All P (while_some here o more).0) [
      | None ↦ λ e. All-nil P
      | Some x ↦ λ e. All-cons P x (more x).0 (each state line x e) (lines_all P value moved each (moved state x) rest)
    ] in
    elim (cases_Bool (length rest == 0)) [
      | inl so ↦ subst (λ r. All P r.0) (sym (cond-true (length rest == 0) none (while_some here (value state line) more) so)) (All-nil P)
      | inr other ↦ subst (λ r. All P r.0) (sym (cond-false (length rest == 0) none (while_some here (value state line) more) other))
          (go (value state line) refl)
    ]

abbrev hands_in : ℕ → List (List ℕ) → List HandEnd × List (List ℕ)
hands_in least parts = lines_from (λ least. said (hand least)) (λ least end. end.hand + 1) least parts

hands_ascend : (known : Known) (least : ℕ) (parts : List (List ℕ)) → Ascend least (hands_in least parts).0
unfolding lines_from
hands_ascend known least [] = tt
hands_ascend known least (line ∷ rest) =
    let here = line ∷ rest in
    let none : List HandEnd × List (List ℕ) = ([], here) in
    let more : HandEnd → List HandEnd × List (List ℕ) = λ x. hands_in (x.hand + 1) rest in
    let go : (o : Option HandEnd) → said (hand least) line ≡ o → Ascend least (while_some here o more).0 =
    λ o. elim o as (λ o. said (hand least) line ≡ o → Ascend least (while_some here o more).0) [
      | None ↦ λ e. tt
      | Some x ↦ λ e. ((hand_in_range known least line x e).above, hands_ascend known (x.hand + 1) rest)
    ] in
    elim (cases_Bool (length rest == 0)) [
      | inl so ↦ subst (λ r.
          Ascend least r.0) (sym (cond-true (length rest == 0) none (while_some here (said (hand least) line) more) so)) tt
      | inr other ↦ subst (λ r. Ascend least r.0)
          (sym (cond-false (length rest == 0) none (while_some here (said (hand least) line) more) other)) (go (said
          (hand least) line) refl)
    ]

written_length : {S A : Type 0} (line : S → A → List ℕ) (moved : S → A → S) (state : S) (xs : List A)
    → length (written line moved state xs) ≡ length xs
written_length line moved state [] = refl
written_length line moved state (x ∷ xs) = ap suc (written_length line moved (moved state x) xs)

-- the place behind several lines
at_behind : {S A : Type 0} (value : S → List ℕ → Option A) (moved : S → A → S) (line : S → A → List ℕ)
    → ((s : S) (l : List ℕ) (x : A) → value s l ≡ Some x → l ≡ line s x)
    → (parts before lines : List (List ℕ)) (state : S) (p : LedgerPlace) → At parts p before
    → written line moved state (lines_from value moved state p.left).0 ≡ lines
    → At parts (record { at = p.at + length (lines_from value moved state p.left).0; left = (lines_from value moved state p.left).1 })
    (before ++ lines)
at_behind value moved line exact parts before lines state p here are =
    let read = lines_from value moved state p.left in
    let cut : p.left ≡ lines ++ read.1 = lines_exact value moved line exact p.left state read.0 read.1 refl ∙ ap (λ l. l ++ read.1) are in
    let count : length lines ≡ length read.0 = sym (ap length are) ∙ written_length line moved state read.0 in
    record {
      cut = here.cut ∙ ap (λ l. before ++ l) cut ∙ sym (append_assoc before lines read.1);
      some = lines_some value moved state p.left here.some;
      count = omega (arith, here.count, length-append before lines, count);
    }

-- ---- the lines that were read

abbrev first_line : ℕ → List (List ℕ)
first_line form = head_line form ∷ []

abbrev to_play : ℕ → Run → List (List ℕ)
to_play form run = head_line form ∷ play_line run ∷ []

abbrev to_entries : ℕ → Run → List Entry → List (List ℕ)
to_entries form run es = to_play form run ++ map entry_line es

abbrev to_refusals : ℕ → Run → List Entry → List Refusal → List (List ℕ)
to_refusals form run es rs = to_entries form run es ++ map (refusal_line form) rs

abbrev to_ticks : ℕ → Run → List Entry → List Refusal → List TickReport → List (List ℕ)
to_ticks form run es rs ts = to_refusals form run es rs ++ tick_lines 0 ts

abbrev to_hands : ℕ → Run → List Entry → List Refusal → List TickReport → List HandEnd → List (List ℕ)
to_hands form run es rs ts hs = to_ticks form run es rs ts ++ map hand_line hs

abbrev to_saved : ℕ → Run → List Entry → List Refusal → List TickReport → List HandEnd → Option SavedLine → List (List ℕ)
to_saved form run es rs ts hs s = to_hands form run es rs ts hs ++ saved_lines s

lines_of_made : (form : ℕ) (run : Run) (es : List Entry)
    (rs : List Refusal) (ts : List TickReport) (hs : List HandEnd)
    (s : Option SavedLine) (status : ℕ)
    → ledger_lines form (made_of run es rs ts hs s status) ≡ to_saved form run es rs ts hs s ++ end_line status (length ts) ∷ []
unfolding ledger_lines
lines_of_made form run es rs ts hs s status = refl

-- ---- from each part to the end

over_out : (parts before : List (List ℕ)) (form : ℕ) (a : LedgerAccount) (p : LedgerPlace) → At parts p before
    → ledger_lines form a ≡ before
    → Fits form a → OutcomeIn form parts (over a p)
unfolding over
over_out parts before form a p here lines fit =
    let done : Result (LedgerAccount × LedgerPlace) ℕ = Ok (a, p) in
    let wrong : Result (LedgerAccount × LedgerPlace) ℕ = Err (line_number p.at) in
    elim (cases_Bool (is_end p.left)) [
      | inl so ↦ subst (OutcomeIn form parts) (sym (cond-true (is_end p.left) done wrong so)) fit
      | inr other ↦ subst (OutcomeIn form parts) (sym (cond-false (is_end p.left) done wrong other))
          (stopped_at parts before [] p (line_number p.at) form a here refl (lines ∙ sym (append-nil before)) fit)
    ]

end_out : (parts : List (List ℕ)) (form : ℕ) (run : Run) (es : List Entry)
    (rs : List Refusal) (ts : List TickReport) (hs : List HandEnd)
    (s : Option SavedLine) (p : LedgerPlace) → Suits form run es rs ts hs s → At parts p (to_saved form run es rs ts hs s)
    → OutcomeIn form parts (from_end form run es rs ts hs s p)
end_out parts form run es rs ts hs s p suits here = go (one_line (said (end form (length ts))) p) refl where
  go : (r : Result (ℕ × LedgerPlace) ℕ) → one_line (said (end form (length ts))) p ≡ r
      → OutcomeIn form parts (follow (λ status. over (made_of run es rs ts hs s status)) r)
  go (Err n) e =
      stopped_at parts (to_saved form run es rs ts hs s) (end_line 0 (length ts) ∷ []) p n form (made_of run es rs ts hs s 0) here
      (one_stops (said (end form (length ts))) p n e) (lines_of_made form run es rs ts hs s 0)
      (fits form run es rs ts hs s 0 suits (ended_well form))
  go (Ok read) e =
      let one = one_exact (said (end form (length ts))) p read.1 read.0 e in
      let line = end_line_is form (length ts) one.line read.0 one.says in
      let status = end_in_range form (length ts) one.line read.0 one.says in
      let cut : p.left ≡ end_line read.0 (length ts) ∷ (read.1).left = one.parts ∙ ap (λ l. l ∷ (read.1).left) line in
      let next = at_next parts (to_saved form run es rs ts hs s) (end_line read.0 (length ts)) p read.1 here cut
      (one_moves (said (end form (length ts))) p read.1 read.0 e) in
      over_out parts (to_saved form run es rs ts hs s ++ end_line read.0 (length ts) ∷ []) form
      (made_of run es rs ts hs s read.0) read.1 next
      (lines_of_made form run es rs ts hs s read.0) (fits form run es rs ts hs s read.0 suits status)

saved_out : (known : Known) (parts : List (List ℕ)) (form : ℕ) (run : Run) (es : List Entry)
    (rs : List Refusal) (ts : List TickReport) (hs : List HandEnd)
    (p : LedgerPlace) → Suits form run es rs ts hs None → At parts p (to_hands form run es rs ts hs)
    → OutcomeIn form parts (from_saved form run es rs ts hs p)
unfolding maybe_line
saved_out known parts form run es rs ts hs p suits here = go (one_line (said (saved form)) p) refl where
  go : (r : Result (SavedLine × LedgerPlace) ℕ) → one_line (said (saved form)) p ≡ r
      → OutcomeIn form parts (follow (from_end form run es rs ts hs) (none_or p r))
  go (Err n) e = end_out parts form run es rs ts hs None p suits
      (subst (At parts p) (sym (append-nil (to_hands form run es rs ts hs))) here)
  go (Ok read) e =
      let one = one_exact (said (saved form)) p read.1 read.0 e in
      let line = saved_line_is form one.line read.0 one.says in
      let cut : p.left ≡ saved_line read.0 ∷ (read.1).left = one.parts ∙ ap (λ l. l ∷ (read.1).left) line in
      end_out parts form run es rs ts hs (Some read.0) read.1
      (record {
        least = suits.least;
        most = suits.most;
        run_is = suits.run_is;
        entries = suits.entries;
        refusals = suits.refusals;
        ticks = suits.ticks;
        hands = suits.hands;
        ascend = suits.ascend;
        saved_is = saved_in_range known form one.line read.0 one.says;
      })
      (at_next parts (to_hands form run es rs ts hs) (saved_line read.0) p read.1 here cut
      (one_moves (said (saved form)) p read.1 read.0 e))

hands_out : (known : Known) (parts : List (List ℕ)) (form : ℕ) (run : Run) (es : List Entry) (rs : List Refusal)
    (ts : List TickReport) (p : LedgerPlace)
    → Suits form run es rs ts [] None → At parts p (to_ticks form run es rs ts) → OutcomeIn form parts (from_hands form run es rs ts p)
unfolding many
hands_out known parts form run es rs ts p suits here =
    let read = hands_in 0 p.left in
    let q : LedgerPlace = record { at = p.at + length read.0; left = read.1 } in
    saved_out known parts form run es rs ts read.0 q
    (record {
      least = suits.least;
      most = suits.most;
      run_is = suits.run_is;
      entries = suits.entries;
      refusals = suits.refusals;
      ticks = suits.ticks;
      hands = lines_all IsEnd (λ least. said (hand least)) (λ least end. end.hand + 1)
          (λ least line e h. let is = hand_in_range known least line e h in (is.ranges, is.cause)) 0 p.left;
      ascend = hands_ascend known 0 p.left;
      saved_is = tt;
    })
    (at_behind (λ least. said (hand least)) (λ least end. end.hand + 1) (λ s. hand_line) hand_line_is parts (to_ticks form run es rs ts)
    (map hand_line read.0) 0 p here (written_hands 0 read.0))

ticks_out : (known : Known) (parts : List (List ℕ)) (form : ℕ) (run : Run) (es : List Entry) (rs : List Refusal) (p : LedgerPlace)
    → Suits form run es rs [] [] None → At parts p (to_refusals form run es rs) → OutcomeIn form parts (from_ticks form run es rs p)
unfolding many
ticks_out known parts form run es rs p suits here =
    let read = lines_from (λ n. said (tick n)) (λ n x. suc n) 0 p.left in
    let q : LedgerPlace = record { at = p.at + length read.0; left = read.1 } in
    hands_out known parts form run es rs read.0 q
    (record {
      least = suits.least;
      most = suits.most;
      run_is = suits.run_is;
      entries = suits.entries;
      refusals = suits.refusals;
      ticks = lines_all TickHasRanges (λ n. said (tick n)) (λ n x. suc n) (tick_in_range known) 0 p.left;
      hands = All-nil IsEnd;
      ascend = tt;
      saved_is = tt;
    })
    (at_behind (λ n. said (tick n)) (λ n x. suc n) tick_line tick_line_is parts (to_refusals form run es rs)
    (tick_lines 0 read.0) 0 p here (written_ticks 0 read.0))

refusals_out : (known : Known) (parts : List (List ℕ)) (form : ℕ) (run : Run) (es : List Entry) (p : LedgerPlace)
    → Suits form run es [] [] [] None → At parts p (to_entries form run es) → OutcomeIn form parts (from_refusals form run es p)
unfolding many
refusals_out known parts form run es p suits here =
    let read = lines_from {S = ℕ} (λ s. said (refusal form)) (λ s x. s) 0 p.left in
    let q : LedgerPlace = record { at = p.at + length read.0; left = read.1 } in
    ticks_out known parts form run es read.0 q
    (record {
      least = suits.least;
      most = suits.most;
      run_is = suits.run_is;
      entries = suits.entries;
      refusals = lines_all {S = ℕ} (IsRefusal form) (λ s. said (refusal form)) (λ s x. s) (λ s. refusal_in_range known form) 0 p.left;
      ticks = All-nil TickHasRanges;
      hands = All-nil IsEnd;
      ascend = tt;
      saved_is = tt;
    })
    (at_behind {S = ℕ} (λ s. said (refusal form)) (λ s x. s) (λ s. refusal_line form) (λ s. refusal_line_is form) parts
    (to_entries form run es) (map (refusal_line form) read.0) 0 p here (written_map (refusal_line form) 0 read.0))

entries_out : (known : Known) (parts : List (List ℕ)) (form : ℕ) (run : Run) (p : LedgerPlace)
    → Suits form run [] [] [] [] None → At parts p (to_play form run) → OutcomeIn form parts (from_entries form run p)
unfolding many
entries_out known parts form run p suits here =
    let read = lines_from {S = ℕ} (λ s. said (entry form)) (λ s x. s) 0 p.left in
    let q : LedgerPlace = record { at = p.at + length read.0; left = read.1 } in
    refusals_out known parts form run read.0 q
    (record {
      least = suits.least;
      most = suits.most;
      run_is = suits.run_is;
      entries = lines_all {S = ℕ} (IsEntry form) (λ s. said (entry form)) (λ s x. s) (λ s. entry_in_range known form) 0 p.left;
      refusals = All-nil (IsRefusal form);
      ticks = All-nil TickHasRanges;
      hands = All-nil IsEnd;
      ascend = tt;
      saved_is = tt;
    })
    (at_behind {S = ℕ} (λ s. said (entry form)) (λ s x. s) (λ s. entry_line) (λ s. entry_line_is form) parts
    (to_play form run) (map entry_line read.0) 0 p here (written_map entry_line 0 read.0))

no_parts : (form : ℕ) (run : Run) → 1 ≤ form → form ≤ 2 → RunHasRanges run → Suits form run [] [] [] [] None
no_parts form run least most ranges = record {
  least = least;
  most = most;
  run_is = ranges;
  entries = All-nil (IsEntry form);
  refusals = All-nil (IsRefusal form);
  ticks = All-nil TickHasRanges;
  hands = All-nil IsEnd;
  ascend = tt;
  saved_is = tt;
}

-- a run that asked for nothing
abbrev nothing_asked : Run
nothing_asked = record { rate = 0; seconds = 0; segments = 0; channels = 0; status = 0 }

nothing_suits : (form : ℕ) → 1 ≤ form → form ≤ 2 → Suits form nothing_asked [] [] [] [] None
nothing_suits form least most = no_parts form nothing_asked least most (omega arith, omega arith, omega arith, omega arith)

abbrev shortest : LedgerAccount
shortest = made_of nothing_asked [] [] [] [] None 0

shortest_fits : (form : ℕ) → 1 ≤ form → form ≤ 2 → Fits form shortest
shortest_fits form least most = fits form nothing_asked [] [] [] [] None 0 (nothing_suits form least most) (ended_well form)

play_out : (known : Known) (parts : List (List ℕ)) (form : ℕ) (p : LedgerPlace) → 1 ≤ form → form ≤ 2 → At parts p (first_line form)
    → OutcomeIn form parts (from_play form p)
play_out known parts form p least most here = go (one_line (said play) p) refl where
  go : (r : Result (Run × LedgerPlace) ℕ) → one_line (said play) p ≡ r → OutcomeIn form parts (follow (from_entries form) r)
  go (Err n) e = stopped_at parts (first_line form) (play_line nothing_asked ∷ end_line 0 0 ∷ []) p n form shortest here
      (one_stops (said play) p n e) (lines_of_made form nothing_asked [] [] [] [] None 0) (shortest_fits form least most)
  go (Ok read) e =
      let one = one_exact (said play) p read.1 read.0 e in
      let cut : p.left ≡ play_line read.0 ∷ (read.1).left =
      one.parts ∙ ap (λ l. l ∷ (read.1).left) (play_line_is one.line read.0 one.says) in
      entries_out known parts form read.0 read.1 (no_parts form read.0 least most (play_in_range known one.line read.0 one.says))
      (at_next parts (first_line form) (play_line read.0) p read.1 here cut (one_moves (said play) p read.1 read.0 e))

ledger_out : (known : Known) (parts : List (List ℕ)) (p : LedgerPlace) → At parts p [] → Outcome p parts (ledger p)
unfolding ledger
ledger_out known parts p here = go (one_line (said head) p) refl where
  go : (r : Result (ℕ × LedgerPlace) ℕ) → one_line (said head) p ≡ r → Outcome p parts (follow from_play r)
  go (Err n) e = stopped_at parts [] (head_line 2 ∷ play_line nothing_asked ∷ end_line 0 0 ∷ []) p n 2 shortest here
      (one_stops (said head) p n e) (lines_of_made 2 nothing_asked [] [] [] [] None 0) (shortest_fits 2 (omega arith) (omega arith))
  go (Ok read) e =
      let one = one_exact (said head) p read.1 read.0 e in
      let is = head_line_is known one.line read.0 one.says in
      let cut : p.left ≡ head_line read.0 ∷ (read.1).left = one.parts ∙ ap (λ l. l ∷ (read.1).left) is.0 in
      in_some_form p read.1 read.0 parts (from_play read.0 read.1) e (play_out known parts read.0 read.1 is.1 is.2
      (at_next parts [] (head_line read.0) p read.1 here cut (one_moves (said head) p read.1 read.0 e)))

bytes_out : (known : Known) (bytes : List ℕ) → Outcome (ledger_start bytes) (split 10 bytes) (ledger (ledger_start bytes))
bytes_out known bytes = ledger_out known (split 10 bytes) (ledger_start bytes)
    (record { cut = refl; some = some_part 10 bytes; count = refl })

pub told_in_range : (known : Known) (bytes : List ℕ) (a : LedgerAccount) → ledger_of bytes ≡ Ok a → IsTellable a × AccountHasRanges a
unfolding ledger_of
told_in_range known bytes a h =
    let read = valued (ledger (ledger_start bytes)) a h in
    let out : Outcome (ledger_start bytes) (split 10 bytes) (Ok (a, read.0)) =
    subst (Outcome (ledger_start bytes) (split 10 bytes)) read.1 (bytes_out known bytes) in
    ((out.3).told, (out.3).ranges)

-- and form 1 writes only what it can
pub told_in_form : (known : Known) (bytes : List ℕ) (a : LedgerAccount) (form : ℕ) (p : LedgerPlace)
    → one_line (said head) (ledger_start bytes) ≡ Ok (form, p)
    → ledger_of bytes ≡ Ok a → form ≡ 1 → IsOld a
unfolding ledger_of
told_in_form known bytes a form p head_is h first =
    let read = valued (ledger (ledger_start bytes)) a h in
    let out : Outcome (ledger_start bytes) (split 10 bytes) (Ok (a, read.0)) =
    subst (Outcome (ledger_start bytes) (split 10 bytes)) read.1 (bytes_out known bytes) in
    let same : out.0 ≡ form = (pair_ok out.0 form out.1 p (sym out.2 ∙ head_is)).0 in
    (out.3).old (same ∙ first)

two_of : (form : ℕ) → 1 ≤ form → form ≤ 2 → (form == 1) ≡ false → form ≡ 2
two_of form least most other =
    let not_one : form ≢ 1 = λ e. cc (other, ap (λ f. f == 1) e) in
    omega (arith, least, most, not_one)

-- what is read is the ledger of what was read
pub read_is_written : (known : Known) (bytes : List ℕ) (a : LedgerAccount) → ledger_of bytes ≡ Ok a → IsLedgerOf bytes a
read_is_written known bytes a h =
    let w = whole_exact known bytes a h in
    elim (cases_Bool (w.form == 1)) [
      | inl so ↦
          let one : w.form ≡ 1 = eqb-true w.form 1 so in
          inr (told_in_form known bytes a w.form w.place w.head_is h one, w.text ∙ ap (λ form. ledger_text form a) one)
      | inr other ↦
          let two : w.form ≡ 2 = two_of w.form w.least w.most other in
          inl (w.text ∙ ap (λ form. ledger_text form a) two)
    ]

-- ---- bytes

abbrev IsClean : List ℕ → Type 0
IsClean line = All (λ b. b ≢ 10) line

clean_onto : (b : ℕ) (parts : List (List ℕ)) → b ≢ 10 → All IsClean parts → All IsClean (onto_first b parts)
clean_onto b [] other all = All-cons IsClean (b ∷ []) [] (All-cons (λ b. b ≢ 10) b [] other (All-nil (λ b. b ≢ 10))) (All-nil IsClean)
clean_onto b (part ∷ parts) other all = All-cons IsClean (b ∷ part) parts
    (All-cons (λ b. b ≢ 10) b part other (All-head IsClean part parts all)) (All-tail IsClean part parts all)

clean_parts : (bytes : List ℕ) → All IsClean (split 10 bytes)
clean_parts [] = All-cons IsClean [] [] (All-nil (λ b. b ≢ 10)) (All-nil IsClean)
clean_parts (b ∷ bytes) = elim (cases_Bool (b == 10)) [
  | inl so ↦ subst (All IsClean) (sym (slice_split-cons_yes (λ b. b == 10) b bytes so))
      (All-cons IsClean [] (split 10 bytes) (All-nil (λ b. b ≢ 10)) (clean_parts bytes))
  | inr other ↦ subst (All IsClean) (sym (slice_split-cons_no (λ b. b == 10) b bytes other))
      (clean_onto b (split 10 bytes) (λ e. cc (other, ap (λ b. b == 10) e)) (clean_parts bytes))
]

clean_front : (lines rest : List (List ℕ)) → All IsClean (lines ++ rest) → AreLines lines
clean_front [] rest all = All-nil IsClean
clean_front (line ∷ lines) rest all = All-cons IsClean line lines (All-head IsClean line (lines ++ rest) all)
    (clean_front lines rest (All-tail IsClean line (lines ++ rest) all))

join_front : (lines left : List (List ℕ)) → (length left == 0) ≡ false
    → join_with_byte 10 (lines ++ left) ≡ joined_lines lines ++ join_with_byte 10 left
join_front [] left some = refl
join_front (line ∷ lines) left some =
    join_one line (lines ++ left) (some_behind lines left some)
    ∙ ap (λ t. line ++ (10 ∷ t)) (join_front lines left some)
    ∙ sym (append_assoc line (10 ∷ []) (joined_lines lines ++ join_with_byte 10 left))
    ∙ sym (append_assoc (line ++ 10 ∷ []) (joined_lines lines) (join_with_byte 10 left)) where
      join_one : (line : List ℕ) (parts : List (List ℕ)) → (length parts == 0) ≡ false
          → join_with_byte 10 (line ∷ parts) ≡ line ++ (10 ∷ join_with_byte 10 parts)
      join_one line [] some = absurd (cc)
      join_one line (part ∷ parts) some = refl

read_whole : (known : Known) (form : ℕ) (a : LedgerAccount) → Fits form a → ledger_of (ledger_text form a) ≡ Ok a
read_whole known form a fit = elim (one_or_two form fit.least fit.most) [
  | inl e ↦ subst (λ f.
      ledger_of (ledger_text f a) ≡ Ok a) (sym e)
      (whole_back known 1 a (in_form_1 known a (fit.old e) fit.told fit.ranges) fit.told fit.ranges)
  | inr e ↦ subst (λ f. ledger_of (ledger_text f a) ≡ Ok a) (sym e)
      (whole_back known 2 a (in_form_2 known a fit.told fit.ranges) fit.told fit.ranges)
] where
  one_or_two : (form : ℕ) → 1 ≤ form → form ≤ 2 → (form ≡ 1) ⊎ (form ≡ 2)
  one_or_two form least most = grind (arith, least, most)

pub lines_go_on : (known : Known) (bytes : List ℕ) (line : ℕ) → ledger_of bytes ≡ Err line → line < 4294967295 → GoesOn bytes line
unfolding ledger_of ledger_text
lines_go_on known bytes line h small =
    let parts = split 10 bytes in
    let stop : Stopped parts line = subst (Outcome (ledger_start bytes) parts) (fault_is (ledger (ledger_start bytes)) line h)
    (bytes_out known bytes) in
    record {
      lines = stop.before;
      rest = join_with_byte 10 stop.left;
      other = joined_lines stop.other;
      account = stop.account;
      count = omega (arith, stop.count, small);
      are = clean_front stop.before stop.left (subst (All IsClean) stop.cut (clean_parts bytes));
      front = sym (join_with_byte-slice_split 10 bytes) ∙ ap (join_with_byte 10) stop.cut ∙ join_front stop.before stop.left stop.some;
      whole = ap ledger_of (sym (flat_map-append ended stop.before stop.other) ∙ ap joined_lines (sym stop.lines))
          ∙ read_whole known stop.form stop.account stop.fit;
    }
