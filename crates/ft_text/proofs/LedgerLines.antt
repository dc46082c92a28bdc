-- No line of a ledger has an LF.
use Rattle.std.proofs.Common.{◌≡◌, ℕ, suc, Bool, true, List, [], ◌∷◌, ◌++◌, length, map, All, Option, Some, None, codes, decimal, refl, ◌∙◌, append_assoc}
use Rattle.std.specs.List.{list_all, flat_map}
use Rattle.std.proofs.lemmas.Bool.{and_from, and_parts}
use Rattle.std.proofs.lemmas.List.Elements.{All-head, All-tail}
use Rattle.ft_types.specs.declared.edit.Edit.{Edit}
use Rattle.ft_types.specs.declared.journal.Entry.{Entry}
use Rattle.ft_types.specs.declared.journal.Refusal.{Refusal}
use Rattle.ft_types.specs.declared.tick_report.TickReport.{TickReport}
use Rattle.ft_text.specs.declared.record.HandEnd.{HandEnd}
use Rattle.ft_text.specs.declared.record.SavedLine.{SavedLine}
use Rattle.ft_lines.specs.Words.{numbers, words_of}
use Rattle.ft_lines.specs.Texts.{text_of_words, edit_text, batch_text}
use Rattle.ft_text.specs.Record.{LedgerAccount, HasHandCause}
use Rattle.ft_text.specs.Ledger.{head_line, play_line, entry_line, refusal_line, tick_line, tick_lines, hand_line, hand_cause, saved_line, saved_lines, end_line, cause_words, ledger_lines, ledger_text}
use Rattle.ft_lines.specs.Plain.{plain, all_plain}
use Rattle.ft_text.proofs.PlainWords.{plain_numbers, words_append}
use Rattle.ft_text.proofs.SplitsBack.{split, split_lines, avoids, avoids_append, text_avoids, no_lf}
use Rattle.ft_text.proofs.LedgerLinesBack.{cause_name, plain_cause}
use Rattle.ft_text.specs.Known.{Known}

-- ---- edits

edit_lf : (known : Known) (edit : Edit) → avoids 10 (edit_text edit) ≡ true
unfolding edit_text
edit_lf known edit = text_avoids 10 refl no_lf (words_of edit) (known.plain_words edit)

others_lf : (known : Known) (edits : List Edit) → avoids 10 (flat_map (λ other. codes " ; " ++ edit_text other) edits) ≡ true
others_lf known [] = refl
others_lf known (edit ∷ edits) = avoids_append 10 (codes " ; " ++ edit_text edit) _ (edit_lf known edit) (others_lf known edits)

batch_lf : (known : Known) (edits : List Edit) → avoids 10 (batch_text edits) ≡ true
unfolding batch_text
batch_lf known [] = refl
batch_lf known (edit ∷ edits) = avoids_append 10 (edit_text edit) _ (edit_lf known edit) (others_lf known edits)

-- ---- lines

words_lf : (words : List (List ℕ)) → all_plain words ≡ true → avoids 10 (text_of_words words) ≡ true
words_lf words all = text_avoids 10 refl no_lf words all

entry_lf : (known : Known) (e : Entry) → avoids 10 (entry_line e) ≡ true
entry_lf known e = avoids_append 10 (text_of_words (codes "c" ∷ numbers (e.version ∷ e.hand ∷ e.seq ∷ []))) (32 ∷ batch_text e.batch)
    (words_lf (codes "c" ∷ numbers (e.version ∷ e.hand ∷ e.seq ∷ [])) (plain_numbers known (e.version ∷ e.hand ∷ e.seq ∷ [])))
    (batch_lf known e.batch)

refusal_lf : (known : Known) (form : ℕ) (f : Refusal) → avoids 10 (refusal_line form f) ≡ true
refusal_lf known form f =
    let ns = numbers (f.hand ∷ f.seq ∷ []) in
    let cw = cause_words form f.cause in
    let ws = (codes "r" ∷ ns) ++ cw in
    avoids_append 10 (text_of_words ws) (32 ∷ batch_text f.batch)
    (words_lf ws (words_append ns cw (plain_numbers known (f.hand ∷ f.seq ∷ [])) (plain_cause known form f.cause))) (batch_lf known f.batch)

hand_lf : (known : Known) (h : HandEnd) → HasHandCause h → avoids 10 (hand_line h) ≡ true
hand_lf known h c = words_lf (codes "h" ∷ decimal h.hand ∷ hand_cause h.cause ∷ decimal h.at ∷ [])
    (and_from (plain (decimal h.hand)) _ (known.plain_decimal h.hand)
    (and_from (plain (hand_cause h.cause)) _ (cause_name h.cause c.0 c.1).1
    (and_from (plain (decimal h.at)) true (known.plain_decimal h.at) refl)))

-- ---- all lines

abbrev pub clean : List (List ℕ) → Bool
clean lines = list_all (avoids 10) lines

clean_append : (v w : List (List ℕ)) → clean v ≡ true → clean w ≡ true → clean (v ++ w) ≡ true
clean_append [] w a b = b
clean_append (x ∷ v) w a b = let parts = and_parts (avoids 10 x) (clean v) a in and_from (avoids 10 x) (clean (v ++ w)) parts.0
    (clean_append v w parts.1 b)

entries_clean : (known : Known) (es : List Entry) → clean (map entry_line es) ≡ true
entries_clean known [] = refl
entries_clean known (e ∷ es) = and_from (avoids 10 (entry_line e)) (clean (map entry_line es)) (entry_lf known e) (entries_clean known es)

refusals_clean : (known : Known) (form : ℕ) (fs : List Refusal) → clean (map (refusal_line form) fs) ≡ true
refusals_clean known form [] = refl
refusals_clean known form (f ∷ fs) =
    and_from (avoids 10 (refusal_line form f)) (clean (map (refusal_line form) fs)) (refusal_lf known form f) (refusals_clean known form fs)

ticks_clean : (known : Known) (n : ℕ) (ts : List TickReport) → clean (tick_lines n ts) ≡ true
ticks_clean known n [] = refl
ticks_clean known n (t ∷ ts) =
    let ns = n ∷ t.version ∷ t.order ∷ t.row ∷ t.tick ∷ t.frames ∷ [] in
    and_from (avoids 10 (tick_line n t)) (clean (tick_lines (suc n) ts)) (words_lf (codes "t" ∷ numbers ns) (plain_numbers known ns))
    (ticks_clean known (suc n) ts)

hands_clean : (known : Known) (hs : List HandEnd) → All HasHandCause hs → clean (map hand_line hs) ≡ true
hands_clean known [] all = refl
hands_clean known (h ∷ hs) all = and_from (avoids 10 (hand_line h)) (clean (map hand_line hs))
    (hand_lf known h (All-head HasHandCause h hs all))
    (hands_clean known hs (All-tail HasHandCause h hs all))

saved_clean : (known : Known) (s : Option SavedLine) → clean (saved_lines s) ≡ true
saved_clean known None = refl
saved_clean known (Some s) = and_from (avoids 10 (saved_line s)) true
    (words_lf (codes "s" ∷ numbers (s.version ∷ s.bytes ∷ [])) (plain_numbers known (s.version ∷ s.bytes ∷ []))) refl

head_clean : (known : Known) (form : ℕ) → avoids 10 (head_line form) ≡ true
head_clean known form = words_lf (codes "xmstudio" ∷ codes "ledger" ∷ decimal form ∷ []) (plain_numbers known (form ∷ []))

first_clean : (known : Known) (form : ℕ) (line : List ℕ) → avoids 10 line ≡ true → clean (head_line form ∷ line ∷ []) ≡ true
first_clean known form line none =
    and_from (avoids 10 (head_line form)) (clean (line ∷ [])) (head_clean known form) (and_from (avoids 10 line) true none refl)

lines_clean : (known : Known) (form : ℕ) (a : LedgerAccount) → All HasHandCause a.hands → clean (ledger_lines form a) ≡ true
unfolding ledger_lines
lines_clean known form a causes =
    let run = a.run in
    let ns = run.rate ∷ run.seconds ∷ run.segments ∷ run.channels ∷ [] in
    let last = run.status ∷ length a.ticks ∷ [] in
    let p0 = head_line form ∷ play_line run ∷ [] in
    let p1 = p0 ++ map entry_line a.entries in
    let p2 = p1 ++ map (refusal_line form) a.refusals in
    let p3 = p2 ++ tick_lines 0 a.ticks in
    let p4 = p3 ++ map hand_line a.hands in
    let p5 = p4 ++ saved_lines a.saved in
    clean_append p5 (end_line run.status (length a.ticks) ∷ [])
    (clean_append p4 (saved_lines a.saved)
    (clean_append p3 (map hand_line a.hands)
    (clean_append p2 (tick_lines 0 a.ticks)
    (clean_append p1 (map (refusal_line form) a.refusals)
    (clean_append p0 (map entry_line a.entries)
    (first_clean known form (play_line run) (words_lf (codes "play" ∷ numbers ns) (plain_numbers known ns)))
    (entries_clean known a.entries)) (refusals_clean known form a.refusals)) (ticks_clean known 0 a.ticks))
    (hands_clean known a.hands causes))
    (saved_clean known a.saved))
    (and_from (avoids 10 (end_line run.status (length a.ticks))) true
    (words_lf (codes "end" ∷ numbers last) (plain_numbers known last)) refl)

regroup : (a b c d e f g t : List (List ℕ)) → a ++ b ++ c ++ d ++ e ++ f ++ g ++ t ≡ a ++ (b ++ (c ++ (d ++ (e ++ (f ++ (g ++ t))))))
regroup a b c d e f g t = simp append_assoc

-- the parts of a ledger
pub parts_are : (known : Known) (form : ℕ) (a : LedgerAccount) → All HasHandCause a.hands → split 10 (ledger_text form a)
    ≡ head_line form ∷ play_line a.run ∷ (map entry_line a.entries ++ (map (refusal_line form) a.refusals ++ (tick_lines 0 a.ticks
    ++ (map hand_line a.hands ++ (saved_lines a.saved ++ (end_line a.run.status (length a.ticks) ∷ [] ∷ []))))))
unfolding ledger_text ledger_lines
parts_are known form a causes =
    split_lines (ledger_lines form a) (lines_clean known form a causes)
    ∙ regroup (head_line form ∷ play_line a.run ∷ []) (map entry_line a.entries) (map (refusal_line form) a.refusals) (tick_lines 0 a.ticks)
    (map hand_line a.hands) (saved_lines a.saved) (end_line a.run.status (length a.ticks) ∷ []) ([] ∷ [])
