-- What a ledger says is what it was written of, line by line.
use Rattle.std.proofs.Common.{◌≡◌, ℕ, ◌≤◌, ◌==◌, inl, inr, List, [], ◌∷◌, ◌++◌, length, Option, Some, None, codes, decimal, sym, ap, ◌∙◌, append_assoc, append-nil}
use Rattle.std.specs.List.{join_with_byte}
use Rattle.std.proofs.lemmas.Bool.{cases_Bool, cond-true, cond-false, eqb-true}
use Rattle.std.proofs.lemmas.List.{nil_from_length}
use Rattle.std.proofs.lemmas.List.Splits.{join_with_byte-slice_split}
use Rattle.ft_types.specs.declared.journal.Entry.{Entry}
use Rattle.ft_types.specs.declared.journal.Refusal.{Refusal}
use Rattle.ft_types.specs.declared.tick_report.TickReport.{TickReport}
use Rattle.ft_text.specs.declared.record.Run.{Run}
use Rattle.ft_text.specs.declared.record.HandEnd.{HandEnd}
use Rattle.ft_text.specs.declared.record.SavedLine.{SavedLine}
use Rattle.ft_lines.specs.Values.{number_of}
use Rattle.ft_lines.specs.Words.{numbers}
use Rattle.ft_lines.specs.Texts.{spaced}
use Rattle.ft_lines.specs.Lines.{this_word}
use Rattle.ft_text.specs.Ledger.{head_line, play_line, entry_line, refusal_line, tick_line, hand_line, hand_cause, saved_line, end_line, cause_words}
use Rattle.ft_text.specs.LedgerWords.{if_over, said, batch, head, play, entry, cause, refusal, tick, hand, saved, end}
use Rattle.ft_text.proofs.SplitsBack.{split}
use Rattle.ft_text.proofs.WordsExact.{number_is, this_is, took, given, link, head_exact, play_exact, tick_exact, hand_exact, saved_exact, end_exact, cause_exact, batch_exact, followed}
use Rattle.ft_text.specs.Known.{Known}

-- ---- a line and its words

join_spaced : (w : List ℕ) (ws : List (List ℕ)) → join_with_byte 32 (w ∷ ws) ≡ w ++ spaced ws
join_spaced w [] = sym (append-nil w)
join_spaced w (v ∷ ws) = ap (λ t. w ++ (32 ∷ t)) (join_spaced v ws)

join_append : (w : List ℕ) (ws : List (List ℕ)) (v : List ℕ) (vs : List (List ℕ))
    → join_with_byte 32 (w ∷ (ws ++ (v ∷ vs))) ≡ (w ++ spaced ws) ++ (32 ∷ join_with_byte 32 (v ∷ vs))
join_append w [] v vs = ap (λ t. t ++ (32 ∷ join_with_byte 32 (v ∷ vs))) (sym (append-nil w))
join_append w (u ∷ ws) v vs =
    ap (λ t. w ++ (32 ∷ t)) (join_append u ws v vs) ∙ sym (append_assoc w (32 ∷ (u ++ spaced ws)) (32 ∷ join_with_byte 32 (v ∷ vs)))

line_is : (line w : List ℕ) (ws : List (List ℕ)) → split 32 line ≡ w ∷ ws → line ≡ w ++ spaced ws
line_is line w ws e = sym (join_with_byte-slice_split 32 line) ∙ ap (join_with_byte 32) e ∙ join_spaced w ws

-- all words were taken
pub taken_all : {A : Type 0} (o : Option (A × List (List ℕ))) (x : A) → if_over o ≡ Some x → o ≡ Some (x, [])
taken_all None x h = absurd (cc)
taken_all (Some taken) x h = elim (cases_Bool (length taken.1 == 0)) [
  | inl so ↦
      let e : Some taken.0 ≡ Some x = sym (cond-true (length taken.1 == 0) (Some taken.0) None so) ∙ h in
      let same : taken.0 ≡ x = cc in
      ap (λ y. Some (y, taken.1)) same ∙ ap (λ r. Some (x, r)) (nil_from_length taken.1 (eqb-true (length taken.1) 0 so))
  | inr other ↦ absurd (cc (cond-false (length taken.1 == 0) (Some taken.0) None other, h))
]

-- ---- each line

pub head_line_is : (known : Known) (line : List ℕ) (form : ℕ) → said head line ≡ Some form
    → (line ≡ head_line form) × (1 ≤ form) × (form ≤ 2)
head_line_is known line form h =
    let e = head_exact known (split 32 line) [] form (taken_all (head (split 32 line)) form h) in
    (line_is line (codes "xmstudio") (codes "ledger" ∷ decimal form ∷ []) e.0, e.1, e.2)

pub play_line_is : (line : List ℕ) (run : Run) → said play line ≡ Some run → line ≡ play_line run
play_line_is line run h =
    let e = play_exact (split 32 line) [] run (taken_all (play (split 32 line)) run h) in
    line_is line (codes "play") (numbers (run.rate ∷ run.seconds ∷ run.segments ∷ run.channels ∷ [])) e.0

pub tick_line_is : (n : ℕ) (line : List ℕ) (t : TickReport) → said (tick n) line ≡ Some t → line ≡ tick_line n t
tick_line_is n line t h = line_is line (codes "t") (numbers (n ∷ t.version ∷ t.order ∷ t.row ∷ t.tick ∷ t.frames ∷ []))
    (tick_exact n (split 32 line) [] t (taken_all (tick n (split 32 line)) t h))

pub hand_line_is : (least : ℕ) (line : List ℕ) (e : HandEnd) → said (hand least) line ≡ Some e → line ≡ hand_line e
hand_line_is least line e h = line_is line (codes "h") (decimal e.hand ∷ hand_cause e.cause ∷ decimal e.at ∷ [])
    (hand_exact least (split 32 line) [] e (taken_all (hand least (split 32 line)) e h))

pub saved_line_is : (form : ℕ) (line : List ℕ) (s : SavedLine) → said (saved form) line ≡ Some s → line ≡ saved_line s
saved_line_is form line s h = line_is line (codes "s") (numbers (s.version ∷ s.bytes ∷ []))
    (saved_exact form (split 32 line) [] s (taken_all (saved form (split 32 line)) s h))

pub end_line_is : (form ticks : ℕ) (line : List ℕ) (status : ℕ) → said (end form ticks) line ≡ Some status → line ≡ end_line status ticks
end_line_is form ticks line status h = line_is line (codes "end") (numbers (status ∷ ticks ∷ []))
    (end_exact form ticks (split 32 line) [] status (taken_all (end form ticks (split 32 line)) status h))

pub entry_line_is : (form : ℕ) (line : List ℕ) (entry' : Entry) → said (entry form) line ≡ Some entry' → line ≡ entry_line entry'
entry_line_is form line made h =
    let words = split 32 line in
    let a = took (this_word (codes "c")) _ words (made, []) (taken_all (entry form words) made h) in
    let b = took (number_of 4294967295) _ a.rest (made, []) a.behind in
    let c = took (number_of 255) _ b.rest (made, []) b.behind in
    let d = took (number_of 4294967295) _ c.rest (made, []) c.behind in
    let f = followed (batch form d.rest) _ (made, []) d.behind in
    let all : Entry = record { version = b.x; hand = c.x; seq = d.x; batch = f.x } in
    let last = given all made f.rest [] f.behind in
    let text = batch_exact form d.rest f.rest f.x f.first in
    let ws = numbers (b.x ∷ c.x ∷ d.x ∷ []) in
    let here : words ≡ codes "c" ∷ (ws ++ (text.first ∷ text.others)) =
    link a.words_are (this_is _ a.x a.w a.value_is) (link b.words_are (number_is _ b.x b.w b.value_is)
    (link c.words_are (number_is _ c.x c.w c.value_is) (link d.words_are (number_is _ d.x d.w d.value_is) text.words_are))) in
    sym (join_with_byte-slice_split 32 line) ∙ ap (join_with_byte 32) here ∙ join_append (codes "c") ws text.first text.others
    ∙ ap (λ t. (codes "c" ++ spaced ws) ++ (32 ∷ t)) (sym text.text)
    ∙ ap entry_line last.0

pub refusal_line_is : (form : ℕ) (line : List ℕ) (f : Refusal) → said (refusal form) line ≡ Some f → line ≡ refusal_line form f
refusal_line_is form line made h =
    let words = split 32 line in
    let a = took (this_word (codes "r")) _ words (made, []) (taken_all (refusal form words) made h) in
    let b = took (number_of 255) _ a.rest (made, []) a.behind in
    let c = took (number_of 4294967295) _ b.rest (made, []) b.behind in
    let d = followed (cause form c.rest) _ (made, []) c.behind in
    let f = followed (batch form d.rest) _ (made, []) d.behind in
    let all : Refusal = record { hand = b.x; seq = c.x; batch = f.x; cause = d.x } in
    let last = given all made f.rest [] f.behind in
    let text = batch_exact form d.rest f.rest f.x f.first in
    let cw = cause_words form d.x in
    let ws = numbers (b.x ∷ c.x ∷ []) ++ cw in
    let here : words ≡ codes "r" ∷ (ws ++ (text.first ∷ text.others)) =
    link a.words_are (this_is _ a.x a.w a.value_is) (link b.words_are (number_is _ b.x b.w b.value_is)
    (link c.words_are (number_is _ c.x c.w c.value_is) (cause_exact form c.rest d.rest d.x d.first ∙ ap (λ r. cw ++ r) text.words_are))) in
    sym (join_with_byte-slice_split 32 line) ∙ ap (join_with_byte 32) here ∙ join_append (codes "r") ws text.first text.others
    ∙ ap (λ t. (codes "r" ++ spaced ws) ++ (32 ∷ t)) (sym text.text)
    ∙ ap (refusal_line form) last.0
