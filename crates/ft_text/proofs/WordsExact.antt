-- What a line of a ledger says is what it was written of.
use Rattle.std.proofs.Common.{◌≡◌, ℕ, ◌≤◌, ◌==◌, Bool, true, cond, ◌&&◌, ◌⊎◌, inl, inr, List, [], ◌∷◌, ◌++◌, length, nat_le, Option, Some, None, codes, decimal, ℤ, refl, sym, ap, ◌∙◌, append_assoc}
use Rattle.std.specs.Prelude.{bytes_eq}
use Rattle.std.specs.Fmt.{signed_decimal}
use Rattle.std.specs.Str.Parse.{digits_value, signed_digits_value}
use Rattle.std.specs.List.{join_with_byte}
use Rattle.std.proofs.lemmas.Bool.{cases_Bool, cond-true, cond-false, and_parts, eqb-true, leb-true}
use Rattle.std.proofs.lemmas.Slice.Eq.{bytes_eq-Decides}
use Rattle.ft_types.specs.declared.edit.Edit.{Edit}
use Rattle.ft_types.specs.declared.edit_fault.EditFault.{EditFault}
use Rattle.ft_types.specs.declared.edit_fault.EditFault.TheVariants as causes
use Rattle.ft_types.specs.declared.commit_fault.CommitFault.{CommitFault}
use Rattle.ft_types.specs.declared.commit_fault.CommitFault.TheVariants as faults
use Rattle.ft_types.specs.declared.tick_report.TickReport.{TickReport}
use Rattle.ft_text.specs.declared.record.Run.{Run}
use Rattle.ft_text.specs.declared.record.HandEnd.{HandEnd}
use Rattle.ft_text.specs.declared.record.SavedLine.{SavedLine}
use Rattle.ft_lines.specs.Values.{number_of, signed_of, is_within}
use Rattle.ft_lines.specs.Words.{numbers}
use Rattle.ft_lines.specs.Texts.{batch_text}
use Rattle.ft_lines.specs.Reading.{spaces}
use Rattle.ft_lines.specs.Edits.{named}
use Rattle.ft_lines.specs.Lines.{this_word, beginning}
use Rattle.ft_text.specs.Ledger.{hand_cause, fault_words, cause_words, place_words}
use Rattle.ft_text.specs.LedgerWords.{Taking, give, follow, ◌>>=◌, with_rest, word, u8_word, if_text, each_edit, batch_of, most_edits, batch, only_if, form_of, head, play, no_pattern, no_row, no_channel, no_order, no_instrument, range, too_many, no_sample, cut, fault_by, fault, place, edit_cause, worn_cause, full_cause, cause_readings, cause, tick, hand_from, hand_causes, hand, saved_name, saved, is_told, status_of, end}
use Rattle.ft_text.proofs.SplitsBack.{split}
use Rattle.ft_text.specs.Known.{Known}

-- ---- words

pub number_is : (most n : ℕ) (w : List ℕ) → number_of most w ≡ Some n → w ≡ decimal n
number_is most n w h = elim (cases_Bool (bytes_eq w (decimal (digits_value 10 w)) && nat_le (digits_value 10 w) most)) [
  | inl so ↦
      let e : Some (digits_value 10 w) ≡ Some n = sym (cond-true _ (Some (digits_value 10 w)) None so) ∙ h in
      let same : digits_value 10 w ≡ n = cc in
      (bytes_eq-Decides w (decimal (digits_value 10 w))).0 (and_parts _ _ so).0 ∙ ap decimal same
  | inr other ↦ absurd (cc (cond-false _ (Some (digits_value 10 w)) None other, h))
]

pub signed_is : (most : ℕ) (n : ℤ) (w : List ℕ) → signed_of most w ≡ Some n → w ≡ signed_decimal n
signed_is most n w h = elim
    (cases_Bool (bytes_eq w (signed_decimal (signed_digits_value 10 w)) && is_within most (signed_digits_value 10 w))) [
      | inl so ↦
          let e : Some (signed_digits_value 10 w) ≡ Some n = sym (cond-true _ (Some (signed_digits_value 10 w)) None so) ∙ h in
          let same : signed_digits_value 10 w ≡ n = cc in
          (bytes_eq-Decides w (signed_decimal (signed_digits_value 10 w))).0 (and_parts _ _ so).0 ∙ ap signed_decimal same
      | inr other ↦ absurd (cc (cond-false _ (Some (signed_digits_value 10 w)) None other, h))
    ]

pub this_is : (wanted x w : List ℕ) → this_word wanted w ≡ Some x → w ≡ wanted
this_is wanted x w h = elim (cases_Bool (bytes_eq w wanted)) [
  | inl so ↦ (bytes_eq-Decides w wanted).0 so
  | inr other ↦ absurd (cc (cond-false (bytes_eq w wanted) (Some w) None other, h))
]

-- what a test passes
pub passed : {A : Type 0} (test : A → Bool) (o : Option A) (x : A) → only_if test o ≡ Some x → (o ≡ Some x) × (test x ≡ true)
passed test None x h = absurd (cc)
passed test (Some y) x h = elim (cases_Bool (test y)) [
  | inl so ↦
      let e : Some y ≡ Some x = sym (cond-true (test y) (Some y) None so) ∙ h in
      let same : y ≡ x = cc in
      (e, sym (ap test same) ∙ so)
  | inr other ↦ absurd (cc (cond-false (test y) (Some y) None other, h))
]

-- ---- what was taken

-- the word that a reading took first, its value, and what was read after it
pub record Took {A B : Type 0} (value : List ℕ → Option A) (next : A → Taking B) (words : List (List ℕ))
    (y : B × List (List ℕ)) : Type 0 where
  pub w : List ℕ
  pub x : A
  pub rest : List (List ℕ)
  pub words_are : words ≡ w ∷ rest
  pub value_is : value w ≡ Some x
  pub behind : next x rest ≡ Some y

pub took : {A B : Type 0} (value : List ℕ → Option A) (next : A → Taking B) (words : List (List ℕ)) (y : B × List (List ℕ))
    → (word value >>= next) words ≡ Some y → Took value next words y
unfolding word
took value next [] y h = absurd (cc)
took {A} value next (w ∷ rest) y h =
    let go : (o : Option A) → value w ≡ o → follow next (with_rest rest o) ≡ Some y → Took value next (w ∷ rest) y =
    λ o. elim o as (λ o. value w ≡ o → follow next (with_rest rest o) ≡ Some y → Took value next (w ∷ rest) y) [
      | None ↦ λ e k. absurd (cc)
      | Some x ↦ λ e k. record { w = w; x = x; rest = rest; words_are = refl; value_is = e; behind = k }
    ] in
    go (value w) refl h

pub pair_is : {A : Type 0} (x y : A) (words rest : List (List ℕ)) → ◌≡◌ {A = Option (A × List (List ℕ))} (Some (x, words)) (Some (y, rest))
    → (x ≡ y) × (words ≡ rest)
pair_is {A} x y words rest h =
    let e : ◌≡◌ {A = A × List (List ℕ)} (x, words) (y, rest) = cc in
    (ap (λ p. p.0) e, ap (λ p. p.1) e)

pub given : {A : Type 0} (x y : A) (words rest : List (List ℕ)) → give x words ≡ Some (y, rest) → (x ≡ y) × (words ≡ rest)
given x y words rest h = pair_is x y words rest h

-- the words from one on
pub link : {words rest tail : List (List ℕ)} {w v : List ℕ} → words ≡ w ∷ rest → w ≡ v → rest ≡ tail → words ≡ v ∷ tail
link {words} {rest} {tail} {w} {v} first is behind = first ∙ ap (λ x. x ∷ rest) is ∙ ap (λ r. v ∷ r) behind

-- ---- lines of numbers

pub play_exact : (words rest : List (List ℕ)) (run : Run) → play words ≡ Some (run, rest)
    → (words ≡ codes "play" ∷ (numbers (run.rate ∷ run.seconds ∷ run.segments ∷ run.channels ∷ []) ++ rest)) × (run.status ≡ 0)
play_exact words rest run h =
    let a = took (this_word (codes "play")) _ words (run, rest) h in
    let b = took (number_of 4294967295) _ a.rest (run, rest) a.behind in
    let c = took (number_of 4294967295) _ b.rest (run, rest) b.behind in
    let d = took (number_of 65535) _ c.rest (run, rest) c.behind in
    let e = took (number_of 255) _ d.rest (run, rest) d.behind in
    let made : Run = record { rate = b.x; seconds = c.x; segments = d.x; channels = e.x; status = 0 } in
    let last = given made run e.rest rest e.behind in
    let is = this_is (codes "play") a.x a.w a.value_is in
    let all : words ≡ codes "play" ∷ (numbers (b.x ∷ c.x ∷ d.x ∷ e.x ∷ []) ++ rest) =
    cc (
      a.words_are,
      b.words_are,
      c.words_are,
      d.words_are,
      e.words_are,
      is,
      last.1,
      number_is _ b.x b.w b.value_is,
      number_is _ c.x c.w c.value_is,
      number_is _ d.x d.w d.value_is,
      number_is _ e.x e.w e.value_is,
    ) in (
      all ∙ ap (λ r. codes "play" ∷ (numbers (r.rate ∷ r.seconds ∷ r.segments ∷ r.channels ∷ []) ++ rest)) last.0,
      sym
          (ap (λ r. r.status) last.0),
    )

-- a word that is taken last
pub record Last {A : Type 0} (value : List ℕ → Option A) (words rest : List (List ℕ)) (x : A) : Type 0 where
  pub w : List ℕ
  pub words_are : words ≡ w ∷ rest
  pub value_is : value w ≡ Some x

last_word : {A : Type 0} (value : List ℕ → Option A) (words rest : List (List ℕ)) (x : A) → word value words ≡ Some (x, rest)
    → Last value words rest x
unfolding word
last_word value [] rest x h = absurd (cc)
last_word {A} value (w ∷ behind) rest x h =
    let go : (o : Option A) → value w ≡ o → with_rest behind o ≡ Some (x, rest) → Last value (w ∷ behind) rest x =
    λ o. elim o as (λ o. value w ≡ o → with_rest behind o ≡ Some (x, rest) → Last value (w ∷ behind) rest x) [
      | None ↦ λ e k. absurd (cc)
      | Some y ↦ λ e k.
          let same = pair_is y x behind rest k in
          record { w = w; words_are = ap (λ r. w ∷ r) same.1; value_is = e ∙ ap Some same.0 }
    ] in
    go (value w) refl h

pub head_exact : (known : Known) (words rest : List (List ℕ)) (form : ℕ) → head words ≡ Some (form, rest)
    → (words ≡ codes "xmstudio" ∷ codes "ledger" ∷ decimal form ∷ rest) × (1 ≤ form) × (form ≤ 2)
head_exact known words rest form h =
    let a = took (this_word (codes "xmstudio")) _ words (form, rest) h in
    let b = took (this_word (codes "ledger")) _ a.rest (form, rest) a.behind in
    let c = last_word form_of b.rest rest form b.behind in
    let test = passed (λ form. nat_le 1 form) (number_of 2 c.w) form c.value_is in (
      cc (a.words_are, b.words_are, c.words_are, this_is _ a.x a.w a.value_is, this_is _ b.x b.w b.value_is, number_is 2 form c.w test.0),
      leb-true 1 form test.1,
      known.number_within 2 form c.w test.0,
    )

pub tick_exact : (n : ℕ) (words rest : List (List ℕ)) (t : TickReport) → tick n words ≡ Some (t, rest)
    → words ≡ codes "t" ∷ (numbers (n ∷ t.version ∷ t.order ∷ t.row ∷ t.tick ∷ t.frames ∷ []) ++ rest)
tick_exact n words rest t h =
    let a = took (this_word (codes "t")) _ words (t, rest) h in
    let b = took (this_word (decimal n)) _ a.rest (t, rest) a.behind in
    let c = took (number_of 4294967295) _ b.rest (t, rest) b.behind in
    let d = took (number_of 65535) _ c.rest (t, rest) c.behind in
    let e = took (number_of 65535) _ d.rest (t, rest) d.behind in
    let f = took (number_of 65535) _ e.rest (t, rest) e.behind in
    let g = took (number_of 4294967295) _ f.rest (t, rest) f.behind in
    let made : TickReport = record { version = c.x; order = d.x; row = e.x; tick = f.x; frames = g.x } in
    let last = given made t g.rest rest g.behind in
    let all : words ≡ codes "t" ∷ (numbers (n ∷ c.x ∷ d.x ∷ e.x ∷ f.x ∷ g.x ∷ []) ++ rest) =
    link a.words_are (this_is _ a.x a.w a.value_is) (link b.words_are (this_is _ b.x b.w b.value_is)
    (link c.words_are (number_is _ c.x c.w c.value_is) (link d.words_are (number_is _ d.x d.w d.value_is)
    (link e.words_are (number_is _ e.x e.w e.value_is) (link f.words_are (number_is _ f.x f.w f.value_is)
    (link g.words_are (number_is _ g.x g.w g.value_is) last.1)))))) in
    all ∙ ap (λ t. codes "t" ∷ (numbers (n ∷ t.version ∷ t.order ∷ t.row ∷ t.tick ∷ t.frames ∷ []) ++ rest)) last.0

-- what is in a table behind a name
named_case : {A : Type 0} (name : List ℕ) (x : A) (rows : List (List ℕ × A)) (w : List ℕ) (y : A) → named ((name, x) ∷ rows) w ≡ Some y
    → ((w ≡ name) × (x ≡ y)) ⊎ (named rows w ≡ Some y)
named_case name x rows w y h = elim (cases_Bool (bytes_eq w name)) [
  | inl so ↦
      let e : Some x ≡ Some y = sym (cond-true (bytes_eq w name) (Some x) (named rows w) so) ∙ h in
      let same : x ≡ y = cc in
      inl ((bytes_eq-Decides w name).0 so, same)
  | inr other ↦ inr (sym (cond-false (bytes_eq w name) (Some x) (named rows w) other) ∙ h)
]

no_row_left : (w : List ℕ) (c : ℕ) → ◌≡◌ {A = Option ℕ} None (Some c) → w ≡ hand_cause c
no_row_left w c none = absurd (cc)

in_row_4 : (w : List ℕ) (c : ℕ) → named ((codes "memory", 4) ∷ []) w ≡ Some c → w ≡ hand_cause c
in_row_4 w c h = elim (named_case (codes "memory") 4 [] w c h) [ inl a ↦ a.0 ∙ ap hand_cause a.1 | inr rest ↦ no_row_left w c rest ]

in_row_3 : (w : List ℕ) (c : ℕ) → named ((codes "limit", 3) ∷ (codes "memory", 4) ∷ []) w ≡ Some c → w ≡ hand_cause c
in_row_3 w c h = elim (named_case (codes "limit") 3 ((codes "memory", 4) ∷ []) w c h) [
  | inl a ↦ a.0 ∙ ap hand_cause a.1
  | inr rest ↦ in_row_4 w c rest
]

in_row_2 : (w : List ℕ) (c : ℕ) → named ((codes "failed", 2) ∷ (codes "limit", 3) ∷ (codes "memory", 4) ∷ []) w ≡ Some c → w ≡ hand_cause c
in_row_2 w c h = elim (named_case (codes "failed") 2 ((codes "limit", 3) ∷ (codes "memory", 4) ∷ []) w c h) [
  | inl a ↦ a.0 ∙ ap hand_cause a.1
  | inr rest ↦ in_row_3 w c rest
]

cause_is : (w : List ℕ) (c : ℕ) → named hand_causes w ≡ Some c → w ≡ hand_cause c
cause_is w c h = elim (named_case (codes "malformed") 1 ((codes "failed", 2) ∷ (codes "limit", 3) ∷ (codes "memory", 4) ∷ []) w c h) [
  | inl a ↦ a.0 ∙ ap hand_cause a.1
  | inr rest ↦ in_row_2 w c rest
]

pub hand_exact : (least : ℕ) (words rest : List (List ℕ)) (e : HandEnd) → hand least words ≡ Some (e, rest)
    → words ≡ codes "h" ∷ decimal e.hand ∷ hand_cause e.cause ∷ decimal e.at ∷ rest
hand_exact least words rest end h =
    let a = took (this_word (codes "h")) _ words (end, rest) h in
    let b = took (hand_from least) _ a.rest (end, rest) a.behind in
    let c = took (named hand_causes) _ b.rest (end, rest) b.behind in
    let d = took (number_of 4294967295) _ c.rest (end, rest) c.behind in
    let made : HandEnd = record { hand = b.x; cause = c.x; at = d.x } in
    let last = given made end d.rest rest d.behind in
    let from = passed (λ hand. nat_le least hand) (number_of 255 b.w) b.x b.value_is in
    let all : words ≡ codes "h" ∷ decimal b.x ∷ hand_cause c.x ∷ decimal d.x ∷ rest =
    cc (
      a.words_are,
      b.words_are,
      c.words_are,
      d.words_are,
      last.1,
      this_is _ a.x a.w a.value_is,
      number_is 255 b.x b.w from.0,
      cause_is c.w c.x c.value_is,
      number_is _ d.x d.w d.value_is,
    ) in
    all ∙ ap (λ e. codes "h" ∷ decimal e.hand ∷ hand_cause e.cause ∷ decimal e.at ∷ rest) last.0

name_is : (form : ℕ) (x w : List ℕ) → saved_name form w ≡ Some x → w ≡ codes "s"
name_is form x w h = elim (cases_Bool (form == 1)) [
  | inl so ↦ absurd (cc (cond-true (form == 1) None (this_word (codes "s") w) so, h))
  | inr other ↦ this_is (codes "s") x w (sym (cond-false (form == 1) None (this_word (codes "s") w) other) ∙ h)
]

pub saved_exact : (form : ℕ) (words rest : List (List ℕ)) (s : SavedLine) → saved form words ≡ Some (s, rest)
    → words ≡ codes "s" ∷ (numbers (s.version ∷ s.bytes ∷ []) ++ rest)
saved_exact form words rest s h =
    let a = took (saved_name form) _ words (s, rest) h in
    let b = took (number_of 4294967295) _ a.rest (s, rest) a.behind in
    let c = took (number_of 4294967295) _ b.rest (s, rest) b.behind in
    let made : SavedLine = record { version = b.x; bytes = c.x } in
    let last = given made s c.rest rest c.behind in
    let all : words ≡ codes "s" ∷ (numbers (b.x ∷ c.x ∷ []) ++ rest) =
    cc (
      a.words_are,
      b.words_are,
      c.words_are,
      last.1,
      name_is form a.x a.w a.value_is,
      number_is _ b.x b.w b.value_is,
      number_is _ c.x c.w c.value_is,
    ) in
    all ∙ ap (λ s. codes "s" ∷ (numbers (s.version ∷ s.bytes ∷ []) ++ rest)) last.0

pub end_exact : (form ticks : ℕ) (words rest : List (List ℕ)) (status : ℕ) → end form ticks words ≡ Some (status, rest)
    → words ≡ codes "end" ∷ (numbers (status ∷ ticks ∷ []) ++ rest)
end_exact form ticks words rest status h =
    let a = took (this_word (codes "end")) _ words (status, rest) h in
    let b = took (status_of form) _ a.rest (status, rest) a.behind in
    let c = took (this_word (decimal ticks)) _ b.rest (status, rest) b.behind in
    let last = given b.x status c.rest rest c.behind in
    let told = passed (is_told form) (number_of 255 b.w) b.x b.value_is in
    let all : words ≡ codes "end" ∷ decimal b.x ∷ decimal ticks ∷ rest =
    cc (
      a.words_are,
      b.words_are,
      c.words_are,
      last.1,
      this_is _ a.x a.w a.value_is,
      number_is 255 b.x b.w told.0,
      this_is _ c.x c.w c.value_is,
    ) in
    all ∙ ap (λ s. codes "end" ∷ decimal s ∷ decimal ticks ∷ rest) last.0

-- ---- faults and causes

-- a reading that goes by a number
either : {A : Type 0} (k n : ℕ) (first other : Taking A) (words : List (List ℕ)) (y : A × List (List ℕ))
    → cond (k == n) first other words ≡ Some y → ((k ≡ n) × (first words ≡ Some y)) ⊎ (other words ≡ Some y)
either k n first other words y h = elim (cases_Bool (k == n)) [
  | inl so ↦ inl (eqb-true k n so, sym (ap (λ t. t words) (cond-true (k == n) first other so)) ∙ h)
  | inr not_so ↦ inr (sym (ap (λ t. t words) (cond-false (k == n) first other not_so)) ∙ h)
]

-- the words behind the number of a fault
abbrev FaultIs : ℕ → List (List ℕ) → EditFault → List (List ℕ) → Type 0
FaultIs k words f rest = decimal k ∷ words ≡ fault_words f ++ rest

no_pattern_exact : (words rest : List (List ℕ)) (f : EditFault) → no_pattern words ≡ Some (f, rest) → FaultIs 1 words f rest
no_pattern_exact words rest f h =
    let a = took (number_of 255) _ words (f, rest) h in
    let last = given (causes.NoPattern a.x) f a.rest rest a.behind in
    ap (λ r. decimal 1 ∷ r) (link a.words_are (number_is _ a.x a.w a.value_is) last.1) ∙ ap (λ f. fault_words f ++ rest) last.0

no_row_exact : (words rest : List (List ℕ)) (f : EditFault) → no_row words ≡ Some (f, rest) → FaultIs 2 words f rest
no_row_exact words rest f h =
    let a = took (number_of 4294967295) _ words (f, rest) h in
    let b = took (number_of 65535) _ a.rest (f, rest) a.behind in
    let last = given (causes.NoRow a.x b.x) f b.rest rest b.behind in
    ap (λ r. decimal 2 ∷ r) (link a.words_are (number_is _ a.x a.w a.value_is) (link b.words_are (number_is _ b.x b.w b.value_is) last.1))
    ∙ ap (λ f. fault_words f ++ rest) last.0

no_channel_exact : (words rest : List (List ℕ)) (f : EditFault) → no_channel words ≡ Some (f, rest) → FaultIs 3 words f rest
no_channel_exact words rest f h =
    let a = took (number_of 65535) _ words (f, rest) h in
    let last = given (causes.NoChannel a.x) f a.rest rest a.behind in
    ap (λ r. decimal 3 ∷ r) (link a.words_are (number_is _ a.x a.w a.value_is) last.1) ∙ ap (λ f. fault_words f ++ rest) last.0

no_order_exact : (words rest : List (List ℕ)) (f : EditFault) → no_order words ≡ Some (f, rest) → FaultIs 4 words f rest
no_order_exact words rest f h =
    let a = took (number_of 65535) _ words (f, rest) h in
    let last = given (causes.NoOrder a.x) f a.rest rest a.behind in
    ap (λ r. decimal 4 ∷ r) (link a.words_are (number_is _ a.x a.w a.value_is) last.1) ∙ ap (λ f. fault_words f ++ rest) last.0

no_instrument_exact : (words rest : List (List ℕ)) (f : EditFault) → no_instrument words ≡ Some (f, rest) → FaultIs 5 words f rest
no_instrument_exact words rest f h =
    let a = took (number_of 255) _ words (f, rest) h in
    let last = given (causes.NoInstrument a.x) f a.rest rest a.behind in
    ap (λ r. decimal 5 ∷ r) (link a.words_are (number_is _ a.x a.w a.value_is) last.1) ∙ ap (λ f. fault_words f ++ rest) last.0

range_exact : (words rest : List (List ℕ)) (f : EditFault) → range words ≡ Some (f, rest) → FaultIs 6 words f rest
range_exact words rest f h =
    let a = took (number_of 255) _ words (f, rest) h in
    let b = took (signed_of 9223372036854775807) _ a.rest (f, rest) a.behind in
    let last = given (causes.Range a.x b.x) f b.rest rest b.behind in
    ap (λ r. decimal 6 ∷ r) (link a.words_are (number_is _ a.x a.w a.value_is) (link b.words_are (signed_is _ b.x b.w b.value_is) last.1))
    ∙ ap (λ f. fault_words f ++ rest) last.0

too_many_exact : (words rest : List (List ℕ)) (f : EditFault) → too_many words ≡ Some (f, rest) → FaultIs 7 words f rest
too_many_exact words rest f h =
    let a = took (number_of 255) _ words (f, rest) h in
    let b = took (number_of 4294967295) _ a.rest (f, rest) a.behind in
    let last = given (causes.TooMany a.x b.x) f b.rest rest b.behind in
    ap (λ r. decimal 7 ∷ r) (link a.words_are (number_is _ a.x a.w a.value_is) (link b.words_are (number_is _ b.x b.w b.value_is) last.1))
    ∙ ap (λ f. fault_words f ++ rest) last.0

no_sample_exact : (words rest : List (List ℕ)) (f : EditFault) → no_sample words ≡ Some (f, rest) → FaultIs 8 words f rest
no_sample_exact words rest f h =
    let a = took (number_of 255) _ words (f, rest) h in
    let b = took (number_of 255) _ a.rest (f, rest) a.behind in
    let last = given (causes.NoSample a.x b.x) f b.rest rest b.behind in
    ap (λ r. decimal 8 ∷ r) (link a.words_are (number_is _ a.x a.w a.value_is) (link b.words_are (number_is _ b.x b.w b.value_is) last.1))
    ∙ ap (λ f. fault_words f ++ rest) last.0

cut_exact : (words rest : List (List ℕ)) (f : EditFault) → cut words ≡ Some (f, rest) → FaultIs 9 words f rest
cut_exact words rest f h =
    let a = took (number_of 4294967295) _ words (f, rest) h in
    let b = took (number_of 18446744073709551615) _ a.rest (f, rest) a.behind in
    let c = took (number_of 4294967295) _ b.rest (f, rest) b.behind in
    let last = given (causes.Cut a.x b.x c.x) f c.rest rest c.behind in
    ap (λ r. decimal 9 ∷ r) (link a.words_are (number_is _ a.x a.w a.value_is) (link b.words_are (number_is _ b.x b.w b.value_is)
    (link c.words_are (number_is _ c.x c.w c.value_is) last.1)))
    ∙ ap (λ f. fault_words f ++ rest) last.0

-- a fault whose number is this one
of_number : (k n : ℕ) (words rest : List (List ℕ)) (f : EditFault) → k ≡ n → FaultIs n words f rest → FaultIs k words f rest
of_number k n words rest f e is = ap (λ m. decimal m ∷ words) e ∙ is

nothing_else : (k : ℕ) (words rest : List (List ℕ)) (f : EditFault) → ◌≡◌ {A = Option (EditFault × List (List ℕ))} None (Some (f, rest))
    → FaultIs k words f rest
nothing_else k words rest f none = absurd (cc)

fault_by_exact : (k : ℕ) (words rest : List (List ℕ)) (f : EditFault) → fault_by k words ≡ Some (f, rest) → FaultIs k words f rest
fault_by_exact k words rest f h =
    elim (either k 1 no_pattern _ words (f, rest) h) [
      | inl a ↦ of_number k 1 words rest f a.0 (no_pattern_exact words rest f a.1)
      | inr h2 ↦
          elim (either k 2 no_row _ words (f, rest) h2) [
            | inl a ↦ of_number k 2 words rest f a.0 (no_row_exact words rest f a.1)
            | inr h3 ↦
                elim (either k 3 no_channel _ words (f, rest) h3) [
                  | inl a ↦ of_number k 3 words rest f a.0 (no_channel_exact words rest f a.1)
                  | inr h4 ↦
                      elim (either k 4 no_order _ words (f, rest) h4) [
                        | inl a ↦ of_number k 4 words rest f a.0 (no_order_exact words rest f a.1)
                        | inr h5 ↦
                            elim (either k 5 no_instrument _ words (f, rest) h5) [
                              | inl a ↦ of_number k 5 words rest f a.0 (no_instrument_exact words rest f a.1)
                              | inr h6 ↦
                                  elim (either k 6 range _ words (f, rest) h6) [
                                    | inl a ↦ of_number k 6 words rest f a.0 (range_exact words rest f a.1)
                                    | inr h7 ↦
                                        elim (either k 7 too_many _ words (f, rest) h7) [
                                          | inl a ↦ of_number k 7 words rest f a.0 (too_many_exact words rest f a.1)
                                          | inr h8 ↦
                                              elim (either k 8 no_sample _ words (f, rest) h8) [
                                                | inl a ↦ of_number k 8 words rest f a.0 (no_sample_exact words rest f a.1)
                                                | inr h9 ↦
                                                    elim (either k 9 cut _ words (f, rest) h9) [
                                                      | inl a ↦ of_number k 9 words rest f a.0 (cut_exact words rest f a.1)
                                                      | inr none ↦
                                                          nothing_else k words rest f none
                                                    ]
                                              ]
                                        ]
                                  ]
                            ]
                      ]
                ]
          ]
    ]

fault_exact : (words rest : List (List ℕ)) (f : EditFault) → fault words ≡ Some (f, rest) → words ≡ fault_words f ++ rest
unfolding fault
fault_exact words rest f h =
    let a = took (number_of 255) fault_by words (f, rest) h in
    link a.words_are (number_is _ a.x a.w a.value_is) refl ∙ fault_by_exact a.x a.rest rest f a.behind

-- what a reading gave that isn't one word
pub record Followed {A B : Type 0} (r : Option (A × List (List ℕ))) (next : A → Taking B) (y : B × List (List ℕ)) : Type 0 where
  pub x : A
  pub rest : List (List ℕ)
  pub first : r ≡ Some (x, rest)
  pub behind : next x rest ≡ Some y

pub followed : {A B : Type 0} (r : Option (A × List (List ℕ))) (next : A → Taking B) (y : B × List (List ℕ)) → follow next r ≡ Some y
    → Followed r next y
followed None next y h = absurd (cc)
followed (Some taken) next y h = record { x = taken.0; rest = taken.1; first = refl; behind = h }

place_exact : (form at : ℕ) (words rest : List (List ℕ)) → place form words ≡ Some (at, rest) → words ≡ place_words form at ++ rest
place_exact form at words rest h = elim (cases_Bool (form == 1)) [
  | inl so ↦
      let last = given 0 at words rest (sym (ap (λ t. t words) (cond-true (form == 1) (give 0) u8_word so)) ∙ h) in
      last.1 ∙ ap (λ p. p ++ rest) (sym (cond-true (form == 1) [] (numbers (at ∷ [])) so))
  | inr other ↦
      let last = last_word (number_of 255) words rest at (sym (ap (λ t. t words) (cond-false (form == 1) (give 0) u8_word other)) ∙ h) in
      link last.words_are (number_is 255 at last.w last.value_is) refl
      ∙ ap (λ p. p ++ rest) (sym (cond-false (form == 1) [] (numbers (at ∷ [])) other))
]

edit_cause_exact : (form : ℕ) (words rest : List (List ℕ)) (c : CommitFault) → edit_cause form words ≡ Some (c, rest)
    → codes "edit" ∷ words ≡ cause_words form c ++ rest
edit_cause_exact form words rest c h =
    let a = followed (place form words) _ (c, rest) h in
    let b = followed (fault a.rest) _ (c, rest) a.behind in
    let last = given (faults.Edit a.x b.x) c b.rest rest b.behind in
    let pw = place_words form a.x in
    let fw = fault_words b.x in
    let all : words ≡ (pw ++ fw) ++ rest =
    place_exact form a.x words a.rest a.first
    ∙ ap (λ r. pw ++ r) (fault_exact a.rest b.rest b.x b.first ∙ ap (λ r. fw ++ r) last.1)
    ∙ sym (append_assoc pw fw rest) in
    ap (λ r. codes "edit" ∷ r) all ∙ ap (λ c. cause_words form c ++ rest) last.0

worn_exact : (form : ℕ) (words rest : List (List ℕ)) (c : CommitFault) → worn_cause words ≡ Some (c, rest)
    → codes "worn" ∷ words ≡ cause_words form c ++ rest
worn_exact form words rest c h =
    let a = took (number_of 4294967295) _ words (c, rest) h in
    let last = given (faults.Worn a.x) c a.rest rest a.behind in
    ap (λ r. codes "worn" ∷ r) (link a.words_are (number_is _ a.x a.w a.value_is) last.1) ∙ ap (λ c. cause_words form c ++ rest) last.0

full_exact : (form : ℕ) (words rest : List (List ℕ)) (c : CommitFault) → full_cause words ≡ Some (c, rest)
    → codes "full" ∷ words ≡ cause_words form c ++ rest
full_exact form words rest c h =
    let a = took (number_of 4294967295) _ words (c, rest) h in
    let b = took (number_of 4294967295) _ a.rest (c, rest) a.behind in
    let last = given (faults.Full a.x b.x) c b.rest rest b.behind in
    ap (λ r. codes "full" ∷ r)
    (link a.words_are (number_is _ a.x a.w a.value_is) (link b.words_are (number_is _ b.x b.w b.value_is) last.1))
    ∙ ap (λ c. cause_words form c ++ rest) last.0

no_cause_left : (form : ℕ) (w : List ℕ) (words rest : List (List ℕ)) (c : CommitFault) (x : Taking CommitFault)
    → ◌≡◌ {A = Option (Taking CommitFault)} None (Some x) → w ∷ words ≡ cause_words form c ++ rest
no_cause_left form w words rest c x none = absurd (cc)

pub cause_exact : (form : ℕ) (words rest : List (List ℕ)) (c : CommitFault) → cause form words ≡ Some (c, rest)
    → words ≡ cause_words form c ++ rest
unfolding cause
cause_exact form words rest c h =
    let a = took (named (cause_readings form)) (λ reading. reading) words (c, rest) h in
    let worn : List (List ℕ × Taking CommitFault) = (codes "worn", worn_cause) ∷ (codes "full", full_cause) ∷ [] in
    let full : List (List ℕ × Taking CommitFault) = (codes "full", full_cause) ∷ [] in
    let is : a.w ∷ a.rest ≡ cause_words form c ++ rest =
    elim (named_case (codes "edit") (edit_cause form) worn a.w a.x a.value_is) [
      | inl e ↦ ap (λ w. w ∷ a.rest) e.0 ∙ edit_cause_exact form a.rest rest c (ap (λ t. t a.rest) e.1 ∙ a.behind)
      | inr h2 ↦ elim (named_case (codes "worn") worn_cause full a.w a.x h2) [
        | inl e ↦ ap (λ w. w ∷ a.rest) e.0 ∙ worn_exact form a.rest rest c (ap (λ t. t a.rest) e.1 ∙ a.behind)
        | inr h3 ↦ elim (named_case (codes "full") full_cause [] a.w a.x h3) [
          | inl e ↦ ap (λ w. w ∷ a.rest) e.0 ∙ full_exact form a.rest rest c (ap (λ t. t a.rest) e.1 ∙ a.behind)
          | inr none ↦ no_cause_left form a.w a.rest rest c a.x none
        ]
      ]
    ] in
    a.words_are ∙ is

-- ---- batches

text_of_batch : (most : ℕ) (text : List ℕ) (o : Option (List Edit)) (edits : List Edit) → if_text most text o ≡ Some edits
    → batch_text edits ≡ text
text_of_batch most text None edits h = absurd (cc)
text_of_batch most text (Some es) edits h = elim (cases_Bool (nat_le (length es) most && bytes_eq (batch_text es) text)) [
  | inl so ↦
      let e : Some es ≡ Some edits = sym (cond-true _ (Some es) None so) ∙ h in
      let same : es ≡ edits = cc in
      ap batch_text (sym same) ∙ (bytes_eq-Decides (batch_text es) text).0 (and_parts _ _ so).1
  | inr other ↦ absurd (cc (cond-false _ (Some es) None other, h))
]

batch_of_is : (most : ℕ) (text : List ℕ) (edits : List Edit) → batch_of most text ≡ Some edits → batch_text edits ≡ text
unfolding batch_of
batch_of_is most text edits h = text_of_batch most text (each_edit (split 59 text)) edits h

nothing_is_no_batch : (most : ℕ) → batch_of most [] ≡ None
unfolding batch_of beginning spaces
nothing_is_no_batch most = refl

pub with_rest_is : {A : Type 0} (o : Option A) (x : A) (rest : List (List ℕ)) → with_rest [] o ≡ Some (x, rest) → (o ≡ Some x) × (rest ≡ [])
with_rest_is None x rest h = absurd (cc)
with_rest_is (Some y) x rest h = let e = pair_is y x [] rest h in (ap Some e.0, sym e.1)

-- words that are the text of a batch: there is one, and none is left
pub record IsBatchText (words rest : List (List ℕ)) (edits : List Edit) : Type 0 where
  pub first : List ℕ
  pub others : List (List ℕ)
  pub words_are : words ≡ first ∷ others
  pub text : batch_text edits ≡ join_with_byte 32 (first ∷ others)
  pub none_left : rest ≡ []

pub batch_exact : (form : ℕ) (words rest : List (List ℕ)) (edits : List Edit) → batch form words ≡ Some (edits, rest)
    → IsBatchText words rest edits
unfolding batch
batch_exact form [] rest edits h =
    let e = with_rest_is (batch_of (most_edits form) []) edits rest h in
    absurd (cc (nothing_is_no_batch (most_edits form), e.0))
batch_exact form (first ∷ others) rest edits h =
    let e = with_rest_is (batch_of (most_edits form) (join_with_byte 32 (first ∷ others))) edits rest h in
    record {
      first = first;
      others = others;
      words_are = refl;
      text = batch_of_is (most_edits form) (join_with_byte 32 (first ∷ others)) edits e.0;
      none_left = e.1;
    }
