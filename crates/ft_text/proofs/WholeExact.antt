-- A whole ledger that is read is the ledger of what was read.
use Rattle.std.proofs.Common.{◌≡◌, ◌≤◌, ℕ, suc, ◌+◌, ◌==◌, inl, inr, true, List, [], ◌∷◌, ◌++◌, length, map, Option, Some, None, Result, Ok, Err, refl, sym, ap, ◌∙◌, append_assoc, append-nil}
use Rattle.std.specs.List.{join_with_byte}
use Rattle.std.proofs.lemmas.Bool.{cases_Bool, cond-true, cond-false}
use Rattle.std.proofs.lemmas.List.Splits.{join_with_byte-slice_split}
use Rattle.ft_types.specs.declared.journal.Entry.{Entry}
use Rattle.ft_types.specs.declared.journal.Refusal.{Refusal}
use Rattle.ft_types.specs.declared.tick_report.TickReport.{TickReport}
use Rattle.ft_text.specs.declared.record.Run.{Run}
use Rattle.ft_text.specs.declared.record.HandEnd.{HandEnd}
use Rattle.ft_text.specs.declared.record.SavedLine.{SavedLine}
use Rattle.ft_text.specs.Record.{LedgerAccount}
use Rattle.ft_text.specs.Ledger.{head_line, play_line, entry_line, refusal_line, tick_line, tick_lines, hand_line, saved_line, saved_lines, end_line, ledger_lines, ledger_text, joined_lines}
use Rattle.ft_text.specs.LedgerWords.{said, head, play, entry, refusal, tick, hand, saved, end}
use Rattle.ft_lines.specs.Sequence.{follow, ◌>>=◌, read_value}
use Rattle.ft_text.specs.LedgerReading.{LedgerPlace, LinesReading, line_number, one_line, line_at, line_or_wrong, lines_from, while_some, also, many, lines_of, maybe_line, none_or, is_end, over, ledger, ledger_start, ledger_of}
use Rattle.ft_text.proofs.SplitsBack.{split}
use Rattle.ft_text.proofs.LinesExact.{head_line_is, play_line_is, entry_line_is, refusal_line_is, tick_line_is, hand_line_is, saved_line_is, end_line_is}
use Rattle.ft_text.specs.Known.{Known}

-- ---- one line

pub record OneLine {A : Type 0} (value : List ℕ → Option A) (left : List (List ℕ)) (x : A) (q : LedgerPlace) : Type 0 where
  pub line : List ℕ
  pub parts : left ≡ line ∷ q.left
  pub says : value line ≡ Some x

pub pair_ok : {A : Type 0} (x y : A) (p q : LedgerPlace) → ◌≡◌ {A = Result (A × LedgerPlace) ℕ} (Ok (x, p)) (Ok (y, q)) → (x ≡ y) × (p ≡ q)
pair_ok {A} x y p q h =
    let e : ◌≡◌ {A = A × LedgerPlace} (x, p) (y, q) = cc in
    (ap (λ r. r.0) e, ap (λ r. r.1) e)

not_both : {A : Type 0} {P : Type 0} (n : ℕ) (x : A × LedgerPlace) → ◌≡◌ {A = Result (A × LedgerPlace) ℕ} (Err n) (Ok x) → P
not_both n x h = absurd (cc)

pub one_exact : {A : Type 0} (value : List ℕ → Option A) (p q : LedgerPlace) (x : A) → one_line value p ≡ Ok (x, q)
    → OneLine value p.left x q
unfolding one_line
one_exact {A} value p q x h = go p.left h where
  line_go : (line : List ℕ) (rest : List (List ℕ)) (o : Option A) → value line ≡ o → line_or_wrong p.at rest o ≡ Ok (x, q)
      → OneLine value (line ∷ rest) x q
  line_go line rest None e k = not_both (line_number p.at) (x, q) k
  line_go line rest (Some y) e k =
      let same = pair_ok y x (record { at = p.at + 1; left = rest }) q k in
      record { line = line; parts = ap (λ q. line ∷ q.left) same.1; says = e ∙ ap Some same.0 }

  go : (left : List (List ℕ)) → line_at value p.at left ≡ Ok (x, q) → OneLine value left x q
  go [] k = not_both (line_number p.at) (x, q) k
  go (line ∷ rest) k = elim (cases_Bool (length rest == 0)) [
    | inl so ↦ not_both (line_number p.at) (x, q)
        (sym (cond-true (length rest == 0) (Err (line_number p.at)) (line_or_wrong p.at rest (value line)) so) ∙ k)
    | inr other ↦ line_go line rest (value line) refl
        (sym (cond-false (length rest == 0) (Err (line_number p.at)) (line_or_wrong p.at rest (value line)) other) ∙ k)
  ]

-- ---- several lines

-- the lines of values
abbrev pub written : {S A : Type 0} → (S → A → List ℕ) → (S → A → S) → S → List A → List (List ℕ)
written line moved state [] = []
written line moved state (x ∷ xs) = line state x ∷ written line moved (moved state x) xs

pair_is : {A : Type 0} (r s : List A × List (List ℕ)) → r ≡ s → (r.0 ≡ s.0) × (r.1 ≡ s.1)
pair_is r s h = (ap (λ p. p.0) h, ap (λ p. p.1) h)

nothing_read : {S A : Type 0} (line : S → A → List ℕ) (moved : S → A → S) (state : S) (parts : List (List ℕ)) (xs : List A)
    (rest : List (List ℕ))
    → ◌≡◌ {A = List A × List (List ℕ)} ([], parts) (xs, rest) → parts ≡ written line moved state xs ++ rest
nothing_read {S} {A} line moved state parts xs rest h =
    let none : List A × List (List ℕ) = ([], parts) in
    let e = pair_is none (xs, rest) h in
    e.1 ∙ ap (λ ys. written line moved state ys ++ rest) e.0

pub lines_exact : {S A : Type 0} (value : S → List ℕ → Option A) (moved : S → A → S) (line : S → A → List ℕ)
    → ((s : S) (l : List ℕ) (x : A) → value s l ≡ Some x → l ≡ line s x)
    → (parts : List (List ℕ)) (state : S) (xs : List A) (rest : List (List ℕ)) → lines_from value moved state parts ≡ (xs, rest)
    → parts ≡ written line moved state xs ++ rest
unfolding lines_from
lines_exact value moved line exact [] state xs rest h = nothing_read line moved state [] xs rest h
lines_exact {S} {A} value moved line exact (l ∷ parts) state xs rest h =
    let more : A → List A × List (List ℕ) = λ x. lines_from value moved (moved state x) parts in
    let here = l ∷ parts in
    elim (cases_Bool (length parts == 0)) [
      | inl so ↦ nothing_read line moved state here xs rest
          (sym (cond-true (length parts == 0) ([], here) (while_some here (value state l) more) so) ∙ h)
      | inr other ↦
          let k : while_some here (value state l) more ≡ (xs, rest) =
          sym (cond-false (length parts == 0) ([], here) (while_some here (value state l) more) other) ∙ h in
          let go : (o : Option A) → value state l ≡ o → while_some here o more ≡ (xs, rest) → here ≡ written line moved state xs ++ rest =
          λ o. elim o as (λ o. value state l ≡ o → while_some here o more ≡ (xs, rest) → here ≡ written line moved state xs ++ rest) [
            | None ↦ λ e g. nothing_read line moved state here xs rest g
            | Some x ↦ λ e g.
                let same = pair_is (also x (more x)) (xs, rest) g in
                ap (λ w. w ∷ parts) (exact state l x e)
                ∙ ap (λ t. line state x ∷ t) (lines_exact value moved line exact parts (moved state x) (more x).0 (more x).1 refl)
                ∙ ap (λ r. (line state x ∷ written line moved (moved state x) (more x).0) ++ r) same.1
                ∙ ap (λ ys. written line moved state ys ++ rest) same.0
          ] in
          go (value state l) refl k
    ]

pub many_exact : {S A : Type 0} (value : S → List ℕ → Option A) (moved : S → A → S) (line : S → A → List ℕ)
    → ((s : S) (l : List ℕ) (x : A) → value s l ≡ Some x → l ≡ line s x)
    → (state : S) (p q : LedgerPlace) (xs : List A) → many value moved state p ≡ Ok (xs, q) → p.left ≡ written line moved state xs ++ q.left
unfolding many
many_exact value moved line exact state p q xs h =
    let read = lines_from value moved state p.left in
    let same = pair_ok read.0 xs (record { at = p.at + length read.0; left = read.1 }) q h in
    lines_exact value moved line exact p.left state read.0 read.1 refl
    ∙ ap (λ ys. written line moved state ys ++ read.1) same.0 ∙ ap (λ q. written line moved state xs ++ q.left) same.1

pub written_map : {A : Type 0} (line : A → List ℕ) (state : ℕ) (xs : List A) → written {S = ℕ} (λ s. line) (λ s x. s) state xs ≡ map line xs
written_map line state [] = refl
written_map line state (x ∷ xs) = ap (λ t. line x ∷ t) (written_map line state xs)

pub written_hands : (least : ℕ) (hands : List HandEnd) → written (λ s. hand_line) (λ least end.
    end.hand + 1) least hands ≡ map hand_line hands
written_hands least [] = refl
written_hands least (h ∷ hands) = ap (λ t. hand_line h ∷ t) (written_hands (h.hand + 1) hands)

pub written_ticks : (n : ℕ) (ticks : List TickReport) → written tick_line (λ n x. suc n) n ticks ≡ tick_lines n ticks
written_ticks n [] = refl
written_ticks n (t ∷ ticks) = ap (λ r. tick_line n t ∷ r) (written_ticks (suc n) ticks)

-- ---- the song that was saved, and the end

saved_part_is : (form : ℕ) (p q : LedgerPlace) (s : Option SavedLine) → maybe_line (said (saved form)) p ≡ Ok (s, q)
    → p.left ≡ saved_lines s ++ q.left
unfolding maybe_line
saved_part_is form p q s h =
    let go : (r : Result (SavedLine × LedgerPlace) ℕ) → one_line (said (saved form)) p ≡ r → none_or p r ≡ Ok (s, q)
    → p.left ≡ saved_lines s ++ q.left =
    λ r. elim r as (λ r. one_line (said (saved form)) p ≡ r → none_or p r ≡ Ok (s, q) → p.left ≡ saved_lines s ++ q.left) [
      | Ok read ↦ λ e k.
          let same = pair_ok (Some read.0) s read.1 q k in
          let one = one_exact (said (saved form)) p read.1 read.0 e in
          one.parts ∙ ap (λ l. l ∷ (read.1).left) (saved_line_is form one.line read.0 one.says)
          ∙ ap (λ q. saved_line read.0 ∷ q.left) same.1 ∙ ap (λ o. saved_lines o ++ q.left) same.0
      | Err n ↦ λ e k.
          let same = pair_ok None s p q k in
          ap (λ q. q.left) same.1 ∙ ap (λ o. saved_lines o ++ q.left) same.0
    ] in
    go (one_line (said (saved form)) p) refl h

is_the_end : (parts : List (List ℕ)) → is_end parts ≡ true → parts ≡ [] ∷ []
is_the_end [] h = absurd (cc)
is_the_end ([] ∷ []) h = refl
is_the_end ((b ∷ part) ∷ []) h = absurd (cc)
is_the_end (part ∷ next ∷ parts) h = none_is_behind part next parts h where
  none_is_behind : (part next : List ℕ) (parts : List (List ℕ)) → is_end (part ∷ next ∷ parts) ≡ true → part ∷ next ∷ parts ≡ [] ∷ []
  none_is_behind [] next parts h = absurd (cc)
  none_is_behind (b ∷ part) next parts h = absurd (cc)

over_exact : (x y : LedgerAccount) (p q : LedgerPlace) → over x p ≡ Ok (y, q) → (x ≡ y) × (p.left ≡ [] ∷ [])
unfolding over
over_exact x y p q h = elim (cases_Bool (is_end p.left)) [
  | inl so ↦ ((pair_ok x y p q (sym (cond-true (is_end p.left) (Ok (x, p)) (Err (line_number p.at)) so) ∙ h)).0, is_the_end p.left so)
  | inr other ↦ not_both (line_number p.at) (y, q) (sym (cond-false (is_end p.left) (Ok (x, p)) (Err (line_number p.at)) other) ∙ h)
]

-- ---- one part after the other

pub record Followed {A B : Type 0} (r : Result (A × LedgerPlace) ℕ) (next : A → LinesReading B) (y : B × LedgerPlace) : Type 0 where
  pub x : A
  pub place : LedgerPlace
  pub first : r ≡ Ok (x, place)
  pub behind : next x place ≡ Ok y

followed : {A B : Type 0} (r : Result (A × LedgerPlace) ℕ) (next : A → LinesReading B) (y : B × LedgerPlace) → follow next r ≡ Ok y
    → Followed r next y
followed (Ok read) next y h = record { x = read.0; place = read.1; first = refl; behind = h }
followed (Err n) next y h = not_both n y h

pub valued : (r : Result (LedgerAccount × LedgerPlace) ℕ) (a : LedgerAccount) → read_value r ≡ Ok a → (q : LedgerPlace) × (r ≡ Ok (a, q))
valued (Ok read) a h =
    let same : read.0 ≡ a = cc in
    (read.1, ap (λ x. Ok (x, read.1)) same)
valued (Err n) a h = absurd (cc)

-- ---- lines with their LFs

pub join_lines : (lines : List (List ℕ)) → join_with_byte 10 (lines ++ [] ∷ []) ≡ joined_lines lines
join_lines [] = refl
join_lines (l ∷ []) = sym (append-nil (l ++ 10 ∷ []))
join_lines (l ∷ m ∷ lines) = ap (λ t. l ++ (10 ∷ t)) (join_lines (m ∷ lines)) ∙ sym (append_assoc l (10 ∷ []) (joined_lines (m ∷ lines)))

regroup : (a b c d e f g t : List (List ℕ)) → a ++ b ++ c ++ d ++ e ++ f ++ g ++ t ≡ a ++ (b ++ (c ++ (d ++ (e ++ (f ++ (g ++ t))))))
regroup a b c d e f g t = simp append_assoc

text_is : (form : ℕ) (a : LedgerAccount) (bytes : List ℕ) → split 10 bytes ≡ ledger_lines form a ++ [] ∷ [] → bytes ≡ ledger_text form a
unfolding ledger_text
text_is form a bytes e = sym (join_with_byte-slice_split 10 bytes) ∙ ap (join_with_byte 10) e ∙ join_lines (ledger_lines form a)

-- ---- from each part to the end

abbrev pub made_of : Run → List Entry → List Refusal → List TickReport → List HandEnd → Option SavedLine → ℕ → LedgerAccount
made_of run es rs ts hs s status =
    record { run = record run { status = status }; entries = es; refusals = rs; ticks = ts; hands = hs; saved = s }

abbrev pub from_end : ℕ → Run → List Entry → List Refusal → List TickReport → List HandEnd → Option SavedLine → LinesReading LedgerAccount
from_end form run es rs ts hs s = one_line (said (end form (length ts))) >>= (λ status. over (made_of run es rs ts hs s status))

abbrev pub from_saved : ℕ → Run → List Entry → List Refusal → List TickReport → List HandEnd → LinesReading LedgerAccount
from_saved form run es rs ts hs = maybe_line (said (saved form)) >>= from_end form run es rs ts hs

abbrev pub from_hands : ℕ → Run → List Entry → List Refusal → List TickReport → LinesReading LedgerAccount
from_hands form run es rs ts = many (λ least. said (hand least)) (λ least end. end.hand + 1) 0 >>= from_saved form run es rs ts

abbrev pub from_ticks : ℕ → Run → List Entry → List Refusal → LinesReading LedgerAccount
from_ticks form run es rs = many (λ n. said (tick n)) (λ n x. suc n) 0 >>= from_hands form run es rs

abbrev pub from_refusals : ℕ → Run → List Entry → LinesReading LedgerAccount
from_refusals form run es = lines_of (said (refusal form)) >>= from_ticks form run es

abbrev pub from_entries : ℕ → Run → LinesReading LedgerAccount
from_entries form run = lines_of (said (entry form)) >>= from_refusals form run

abbrev pub from_play : ℕ → LinesReading LedgerAccount
from_play form = one_line (said play) >>= from_entries form

-- the lines of an account from each part on
abbrev last_lines : LedgerAccount → List (List ℕ)
last_lines a = end_line a.run.status (length a.ticks) ∷ [] ∷ []

abbrev saved_on : LedgerAccount → List (List ℕ)
saved_on a = saved_lines a.saved ++ last_lines a

abbrev hands_on : LedgerAccount → List (List ℕ)
hands_on a = map hand_line a.hands ++ saved_on a

abbrev ticks_on : LedgerAccount → List (List ℕ)
ticks_on a = tick_lines 0 a.ticks ++ hands_on a

abbrev refusals_on : ℕ → LedgerAccount → List (List ℕ)
refusals_on form a = map (refusal_line form) a.refusals ++ ticks_on a

abbrev entries_on : ℕ → LedgerAccount → List (List ℕ)
entries_on form a = map entry_line a.entries ++ refusals_on form a

-- these parts are those of the account
pub record Made (run : Run) (es : List Entry) (rs : List Refusal) (ts : List TickReport) (hs : List HandEnd) (s : Option SavedLine)
    (a : LedgerAccount) : Type 0 where
  pub asked : record run { status = a.run.status } ≡ a.run
  pub entries : es ≡ a.entries
  pub refusals : rs ≡ a.refusals
  pub ticks : ts ≡ a.ticks
  pub hands : hs ≡ a.hands
  pub saved : s ≡ a.saved

made_is : (run : Run) (es : List Entry) (rs : List Refusal) (ts : List TickReport) (hs : List HandEnd) (s : Option SavedLine) (status : ℕ)
    (a : LedgerAccount)
    → made_of run es rs ts hs s status ≡ a → (status ≡ a.run.status) × Made run es rs ts hs s a
made_is run es rs ts hs s status a e =
    let same : status ≡ a.run.status = ap (λ a. a.run.status) e in (
      same,
      record {
        asked = ap (λ n. record run { status = n }) (sym same) ∙ ap (λ a. a.run) e;
        entries = ap (λ a. a.entries) e;
        refusals = ap (λ a. a.refusals) e;
        ticks = ap (λ a. a.ticks) e;
        hands = ap (λ a. a.hands) e;
        saved = ap (λ a. a.saved) e;
      },
    )

end_exact : (form : ℕ) (run : Run) (es : List Entry) (rs : List Refusal) (ts : List TickReport) (hs : List HandEnd) (s : Option SavedLine)
    (p q : LedgerPlace) (a : LedgerAccount) → from_end form run es rs ts hs s p ≡ Ok (a, q) → (p.left ≡ last_lines a)
    × Made run es rs ts hs s a
end_exact form run es rs ts hs s p q a h =
    let y : LedgerAccount × LedgerPlace = (a, q) in
    let k = followed (one_line (said (end form (length ts))) p) (λ status. over (made_of run es rs ts hs s status)) y h in
    let last = over_exact (made_of run es rs ts hs s k.x) a k.place q k.behind in
    let line = one_exact (said (end form (length ts))) p k.place k.x k.first in
    let made = made_is run es rs ts hs s k.x a last.0 in
    let here : p.left ≡ end_line k.x (length ts) ∷ [] ∷ [] =
    line.parts ∙ ap (λ l. l ∷ k.place.left) (end_line_is form (length ts) line.line k.x line.says)
    ∙ ap (λ r. end_line k.x (length ts) ∷ r) last.1 in
    (here ∙ ap (λ n. end_line n (length ts) ∷ [] ∷ []) made.0 ∙ ap (λ ts. end_line a.run.status (length ts) ∷ [] ∷ []) made.1.ticks, made.1)

saved_exact : (form : ℕ) (run : Run) (es : List Entry) (rs : List Refusal) (ts : List TickReport) (hs : List HandEnd)
    (p q : LedgerPlace) (a : LedgerAccount) → from_saved form run es rs ts hs p ≡ Ok (a, q) → (p.left ≡ saved_on a)
    × Made run es rs ts hs a.saved a
saved_exact form run es rs ts hs p q a h =
    let y : LedgerAccount × LedgerPlace = (a, q) in
    let k = followed (maybe_line (said (saved form)) p) (from_end form run es rs ts hs) y h in
    let rest = end_exact form run es rs ts hs k.x k.place q a k.behind in
    let made = rest.1 in (
      saved_part_is form p k.place k.x k.first ∙ ap (λ s. saved_lines s ++ k.place.left) made.saved
          ∙ ap (λ r. saved_lines a.saved ++ r) rest.0,
      record { asked = made.asked; entries = made.entries; refusals = made.refusals; ticks = made.ticks; hands = made.hands; saved = refl },
    )

hands_exact : (form : ℕ) (run : Run) (es : List Entry) (rs : List Refusal) (ts : List TickReport)
    (p q : LedgerPlace) (a : LedgerAccount) → from_hands form run es rs ts p ≡ Ok (a, q) → (p.left ≡ hands_on a)
    × Made run es rs ts a.hands a.saved a
hands_exact form run es rs ts p q a h =
    let y : LedgerAccount × LedgerPlace = (a, q) in
    let k = followed (many (λ least. said (hand least)) (λ least end. end.hand + 1) 0 p) (from_saved form run es rs ts) y h in
    let rest = saved_exact form run es rs ts k.x k.place q a k.behind in
    let made = rest.1 in
    let here : p.left ≡ map hand_line k.x ++ k.place.left =
    many_exact (λ least. said (hand least)) (λ least end. end.hand + 1) (λ s. hand_line) hand_line_is 0 p k.place k.x k.first
    ∙ ap (λ ls. ls ++ k.place.left) (written_hands 0 k.x) in (
      here ∙ ap (λ hs. map hand_line hs ++ k.place.left) made.hands ∙ ap (λ r. map hand_line a.hands ++ r) rest.0,
      record { asked = made.asked; entries = made.entries; refusals = made.refusals; ticks = made.ticks; hands = refl; saved = refl },
    )

ticks_exact : (form : ℕ) (run : Run) (es : List Entry) (rs : List Refusal)
    (p q : LedgerPlace) (a : LedgerAccount) → from_ticks form run es rs p ≡ Ok (a, q) → (p.left ≡ ticks_on a)
    × Made run es rs a.ticks a.hands a.saved a
ticks_exact form run es rs p q a h =
    let y : LedgerAccount × LedgerPlace = (a, q) in
    let k = followed (many (λ n. said (tick n)) (λ n x. suc n) 0 p) (from_hands form run es rs) y h in
    let rest = hands_exact form run es rs k.x k.place q a k.behind in
    let made = rest.1 in
    let here : p.left ≡ tick_lines 0 k.x ++ k.place.left =
    many_exact (λ n. said (tick n)) (λ n x. suc n) tick_line tick_line_is 0 p k.place k.x k.first
    ∙ ap (λ ls. ls ++ k.place.left) (written_ticks 0 k.x) in (
      here ∙ ap (λ ts. tick_lines 0 ts ++ k.place.left) made.ticks ∙ ap (λ r. tick_lines 0 a.ticks ++ r) rest.0,
      record { asked = made.asked; entries = made.entries; refusals = made.refusals; ticks = refl; hands = refl; saved = refl },
    )

refusals_exact : (form : ℕ) (run : Run) (es : List Entry) (p q : LedgerPlace) (a : LedgerAccount) → from_refusals form run es p ≡ Ok (a, q)
    → (p.left ≡ refusals_on form a) × Made run es a.refusals a.ticks a.hands a.saved a
refusals_exact form run es p q a h =
    let y : LedgerAccount × LedgerPlace = (a, q) in
    let k = followed (lines_of (said (refusal form)) p) (from_ticks form run es) y h in
    let rest = ticks_exact form run es k.x k.place q a k.behind in
    let made = rest.1 in
    let line = refusal_line form in
    let here : p.left ≡ map line k.x ++ k.place.left =
    many_exact {S = ℕ} (λ s. said (refusal form)) (λ s x. s) (λ s. line) (λ s l x. refusal_line_is form l x) 0 p k.place k.x k.first
    ∙ ap (λ ls. ls ++ k.place.left) (written_map line 0 k.x) in (
      here ∙ ap (λ rs. map line rs ++ k.place.left) made.refusals ∙ ap (λ r. map line a.refusals ++ r) rest.0,
      record { asked = made.asked; entries = made.entries; refusals = refl; ticks = refl; hands = refl; saved = refl },
    )

entries_exact : (form : ℕ) (run : Run) (p q : LedgerPlace) (a : LedgerAccount) → from_entries form run p ≡ Ok (a, q)
    → (p.left ≡ entries_on form a) × (record run { status = a.run.status } ≡ a.run)
entries_exact form run p q a h =
    let y : LedgerAccount × LedgerPlace = (a, q) in
    let k = followed (lines_of (said (entry form)) p) (from_refusals form run) y h in
    let rest = refusals_exact form run k.x k.place q a k.behind in
    let made = rest.1 in
    let here : p.left ≡ map entry_line k.x ++ k.place.left =
    many_exact {S = ℕ} (λ s. said (entry form)) (λ s x. s) (λ s. entry_line) (λ s l x. entry_line_is form l x) 0 p k.place k.x k.first
    ∙ ap (λ ls. ls ++ k.place.left) (written_map entry_line 0 k.x) in
    (here ∙ ap (λ es. map entry_line es ++ k.place.left) made.entries ∙ ap (λ r. map entry_line a.entries ++ r) rest.0, made.asked)

play_exact : (form : ℕ) (p q : LedgerPlace) (a : LedgerAccount) → from_play form p ≡ Ok (a, q) → p.left ≡ play_line a.run
    ∷ entries_on form a
play_exact form p q a h =
    let y : LedgerAccount × LedgerPlace = (a, q) in
    let k = followed (one_line (said play) p) (from_entries form) y h in
    let rest = entries_exact form k.x k.place q a k.behind in
    let line = one_exact (said play) p k.place k.x k.first in
    line.parts ∙ ap (λ l. l ∷ k.place.left) (play_line_is line.line k.x line.says) ∙ ap (λ r. play_line k.x ∷ r) rest.0
    ∙ ap (λ run. play_line run ∷ entries_on form a) rest.1

-- ---- all

lines_are : (form : ℕ) (a : LedgerAccount) → head_line form ∷ (play_line a.run ∷ entries_on form a) ≡ ledger_lines form a ++ [] ∷ []
unfolding ledger_lines
lines_are form a =
    sym (regroup (head_line form ∷ play_line a.run ∷ []) (map entry_line a.entries) (map (refusal_line form) a.refusals)
    (tick_lines 0 a.ticks)
    (map hand_line a.hands) (saved_lines a.saved) (end_line a.run.status (length a.ticks) ∷ []) ([] ∷ []))

-- bytes are the text of an account in the form that their first line says
pub record IsTextOf (bytes : List ℕ) (a : LedgerAccount) : Type 0 where
  pub form : ℕ
  pub place : LedgerPlace
  pub head_is : one_line (said head) (ledger_start bytes) ≡ Ok (form, place)
  pub least : 1 ≤ form
  pub most : form ≤ 2
  pub text : bytes ≡ ledger_text form a

pub whole_exact : (known : Known) (bytes : List ℕ) (a : LedgerAccount) → ledger_of bytes ≡ Ok a → IsTextOf bytes a
unfolding ledger_of ledger
whole_exact known bytes a h =
    let p = ledger_start bytes in
    let v = valued (ledger p) a h in
    let y : LedgerAccount × LedgerPlace = (a, v.0) in
    let k = followed (one_line (said head) p) from_play y v.1 in
    let line = one_exact (said head) p k.place k.x k.first in
    let is = head_line_is known line.line k.x line.says in
    let all : split 10 bytes ≡ head_line k.x ∷ (play_line a.run ∷ entries_on k.x a) =
    line.parts ∙ ap (λ l. l ∷ k.place.left) is.0 ∙ ap (λ r. head_line k.x ∷ r) (play_exact k.x k.place v.0 a k.behind) in
    record {
      form = k.x;
      place = k.place;
      head_is = k.first;
      least = is.1;
      most = is.2;
      text = text_is k.x a bytes (all ∙ lines_are k.x a);
    }
