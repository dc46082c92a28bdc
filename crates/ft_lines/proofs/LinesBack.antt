-- The text of edits is a line that says them.
use Rattle.std.proofs.Common.{◌≡◌, ℕ, zero, suc, ◌+◌, ◌<◌, ◌≤◌, true, false, cond, not, ◌||◌, List, [], ◌∷◌, ◌++◌, length, nat_lt, Option, Some, None, Result, Ok, Err, codes, refl, sym, ap, ◌∙◌, append_assoc, append-nil, length-append, arith}
use Rattle.std.specs.Prelude.{bytes_eq}
use Rattle.std.specs.List.{All, flat_map, list_all}
use Rattle.std.proofs.lemmas.Bool.{and_parts, or_from, not-true, le-ltb, ltb-true, cond-false}
use Rattle.std.proofs.lemmas.List.Elements.{All-nil, All-head, All-tail}
use Rattle.ft_types.specs.declared.edit.Edit.{Edit}
use Rattle.ft_types.specs.Edits.{IsGivable}
use Rattle.ft_lines.specs.Texts.{spaced, text_of_words, edit_text, batch_text}
use Rattle.ft_lines.specs.Sequence.{give, follow, ◌>>=◌}
use Rattle.ft_lines.specs.Reading.{LinePlace, spaces, is_over, or_wrong}
use Rattle.ft_lines.specs.Edits.{named, readings, edit_reading}
use Rattle.ft_lines.specs.Lines.{this_word, begins_with_hash, another_reading, others_reading, edits_reading, time_if, time_reading, timed_reading, value_only, beginning, read_from, line_of}
use Rattle.ft_types.specs.EditParts.{EditHasRanges}
use Rattle.ft_lines.specs.ReadBack.{EditsAreReadBack, TextsDiffer, IsBatch, BatchesAreReadBack}
use Rattle.ft_lines.proofs.WordsBack.{place, is_solid, ends_word, IsWord, word_reads, word_is_wrong, word_taken, still_ends, same_behind_space, not_over, not_over_behind_space}
use Rattle.ft_lines.proofs.EditsBack.{is_name, IsWritten, is_written}

-- ---- a name

pub record BeginsLine (name : List ℕ) : Type 0 where
  pub is : IsWord name
  pub few : length name < 10
  pub no_hash : begins_with_hash name ≡ false
  pub no_time : bytes_eq name (codes "at") ≡ false

pub begins_line : (name : List ℕ) → is_name name ≡ true → BeginsLine name
begins_line name h =
    let time = and_parts _ (not (bytes_eq name (codes "at"))) h in
    let hash = and_parts _ (not (begins_with_hash name)) time.0 in
    let few = and_parts _ (nat_lt (length name) 10) hash.0 in
    let some = and_parts (list_all is_solid name) (nat_lt 0 (length name)) few.0 in
    record {
      is = record { some = ltb-true 0 (length name) some.1; solid = some.0 };
      few = ltb-true (length name) 10 few.1;
      no_hash = not-true (begins_with_hash name) hash.1;
      no_time = not-true (bytes_eq name (codes "at")) time.1;
    }

-- ---- an edit

pub text_is : (edit : Edit) (w : IsWritten edit) (rest : List ℕ) → edit_text edit ++ rest ≡ w.name ++ (spaced w.args ++ rest)
unfolding edit_text
text_is edit w rest = ap (λ words. text_of_words words ++ rest) w.words ∙ append_assoc w.name (spaced w.args) rest

pub edit_reads : (edit : Edit) (w : IsWritten edit) (at : ℕ) (rest : List ℕ) → ends_word rest ≡ true
    → (end : ℕ) × (edit_reading (place at (edit_text edit ++ rest)) ≡ Ok (edit, place end rest))
unfolding edit_reading
edit_reads edit w at rest end =
    let is = (begins_line w.name w.begins).is in
    let p = word_reads (named readings) w.reading at w.name (spaced w.args ++ rest) is (still_ends w.args rest end) w.called in
    let q = w.taken.taken.reads ((at + 0) + length w.name) rest end in
    (q.0, ap (λ left. edit_reading (place at left)) (text_is edit w rest) ∙ (ap (follow (λ arguments. arguments)) p ∙ q.1))

pub edit_behind_space : (at : ℕ) (left : List ℕ) → edit_reading (place at (32 ∷ left)) ≡ edit_reading (place (at + 1) left)
unfolding edit_reading
edit_behind_space at left =
    let rest : Result ((ℕ × List ℕ) × LinePlace) ℕ → Result (Edit × LinePlace) ℕ =
    λ r. follow (λ arguments. arguments) (follow (λ found. or_wrong found.0 (named readings found.1)) r) in
    ap rest (same_behind_space at left)

-- ---- further edits

others_text : List Edit → List ℕ
others_text edits = flat_map (λ other. codes " ; " ++ edit_text other) edits

others_end_a_word : (edits : List Edit) → ends_word (others_text edits) ≡ true
unfolding others_text
others_end_a_word [] = refl
others_end_a_word (edit ∷ edits) = refl

separator : IsWord (codes ";")
separator = record { some = omega arith; solid = refl }

another_reads : (edit : Edit) (w : IsWritten edit) (at : ℕ) (rest : List ℕ) → ends_word rest ≡ true
    → (end : ℕ) × (another_reading (place at (32 ∷ (codes ";" ++ (32 ∷ (edit_text edit ++ rest))))) ≡ Ok (edit, place end rest))
unfolding another_reading
another_reads edit w at rest end =
    let p = (word_taken (this_word (codes ";")) (codes ";") (codes ";") 2 separator refl (omega arith)).reads
    at (32 ∷ (edit_text edit ++ rest)) refl in
    let q = edit_reads edit w (p.0 + 1) rest end in
    (q.0, ap (follow (λ _. edit_reading)) p.1 ∙ (edit_behind_space p.0 (edit_text edit ++ rest) ∙ q.1))

no_others : (more at : ℕ) → others_reading more (place at []) ≡ Ok ([], place at [])
unfolding others_reading spaces
no_others zero at = refl
no_others (suc more) at = refl

others_read : (edits : List Edit) (more at : ℕ) → length edits ≤ more → All EditHasRanges edits → All IsGivable edits
    → (end : ℕ) × (others_reading more (place at (others_text edits)) ≡ Ok (edits, place end []))
unfolding others_reading others_text
others_read [] more at few ranges givable = (at, no_others more at)
others_read (edit ∷ edits) zero at few ranges givable = absurd (omega arith)
others_read (edit ∷ edits) (suc more) at few ranges givable =
    let w = is_written edit (All-head EditHasRanges edit edits ranges) (All-head IsGivable edit edits givable) in
    let p = another_reads edit w at (others_text edits) (others_end_a_word edits) in
    let q = others_read edits more p.0 (omega arith) (All-tail EditHasRanges edit edits ranges) (All-tail IsGivable edit edits givable) in
    let open_line = not_over_behind_space at (codes ";") (32 ∷ (edit_text edit ++ others_text edits)) separator in
    let rest : Result (Edit × LinePlace) ℕ → Result (List Edit × LinePlace) ℕ =
    follow (λ e. others_reading more >>= (λ others. give (e ∷ others))) in
    let behind : Result (List Edit × LinePlace) ℕ → Result (List Edit × LinePlace) ℕ = follow (λ others. give (edit ∷ others)) in
    let here : LinePlace = place at (others_text (edit ∷ edits)) in
    (q.0, cond-false (is_over here) (Ok ([], here)) (rest (another_reading here)) open_line ∙ (ap rest p.1 ∙ ap behind q.1))

-- ---- a line

same_first : (name rest : List ℕ) → 0 < length name → begins_with_hash (name ++ rest) ≡ begins_with_hash name
same_first [] rest some = absurd (omega arith)
same_first (b ∷ name) rest some = refl

pub reads_from_its_front : (name rest : List ℕ) → BeginsLine name → length (name ++ rest) ≤ 4096
    → beginning (name ++ rest) ≡ Ok (Some (place 0 (name ++ rest)))
unfolding beginning
reads_from_its_front name rest begins short =
    let line = name ++ rest in
    let hash = same_first name rest begins.is.some ∙ begins.no_hash in
    let start : Result (Option LinePlace) ℕ = Ok (Some (place 0 line)) in
    cond-false (nat_lt 4096 (length line)) (Err 4096) (cond (begins_with_hash line || is_over (place 0 line)) (Ok None) start)
    (le-ltb 4096 (length line) short)
    ∙ cond-false (begins_with_hash line || is_over (place 0 line)) (Ok None) start
    (or_from (begins_with_hash line) (is_over (place 0 line)) hash (not_over 0 name rest begins.is))

pub has_no_time : (name rest : List ℕ) → BeginsLine name → ends_word rest ≡ true
    → time_reading (place 0 (name ++ rest)) ≡ Ok (None, place 0 (name ++ rest))
unfolding time_reading
has_no_time name rest begins end =
    let other : this_word (codes "at") name ≡ None = cond-false (bytes_eq name (codes "at")) (Some name) None begins.no_time in
    ap (time_if (place 0 (name ++ rest))) (word_is_wrong (this_word (codes "at")) 0 name rest begins.is end other)

edits_are_read : (edit : Edit) (others : List Edit) (more : ℕ) (w : IsWritten edit) → length others ≤ more
    → All EditHasRanges others → All IsGivable others
    → (end : ℕ) × (edits_reading more (place 0 (edit_text edit ++ others_text others)) ≡ Ok (edit ∷ others, place end []))
unfolding edits_reading
edits_are_read edit others more w few ranges givable =
    let p = edit_reads edit w 0 (others_text others) (others_end_a_word others) in
    let q = others_read others more p.0 few ranges givable in
    let rest : Result (Edit × LinePlace) ℕ → Result (List Edit × LinePlace) ℕ =
    follow (λ e. others_reading more >>= (λ es. give (e ∷ es))) in
    let behind : Result (List Edit × LinePlace) ℕ → Result (List Edit × LinePlace) ℕ = follow (λ es. give (edit ∷ es)) in
    (q.0, ap rest p.1 ∙ ap behind q.1)

timed_is_read : (edits : List Edit) (more end : ℕ) (p : LinePlace) → time_reading p ≡ Ok (None, p)
    → edits_reading more p ≡ Ok (edits, place end []) → value_only (timed_reading more p) ≡ Ok (Some (None, edits))
unfolding timed_reading
timed_is_read edits more end p time read =
    let behind : Result (Option ℕ × LinePlace) ℕ → Result (Option (Option ℕ × List Edit)) ℕ =
    λ r. value_only (follow (λ time. edits_reading more >>= (λ es. give (time, es))) r) in
    let last : Result (List Edit × LinePlace) ℕ → Result (Option (Option ℕ × List Edit)) ℕ =
    λ r. value_only (follow (λ es. give (None, es)) r) in
    ap behind time ∙ ap last read

line_says : (edit : Edit) (others : List Edit) (more : ℕ) (w : IsWritten edit) → length others ≤ more
    → All EditHasRanges others → All IsGivable others → length (edit_text edit ++ others_text others) ≤ 4096
    → line_of more (edit_text edit ++ others_text others) ≡ Ok (Some (None, edit ∷ others))
line_says edit others more w few ranges givable short =
    let text = edit_text edit ++ others_text others in
    let rest = spaced w.args ++ others_text others in
    let e : text ≡ w.name ++ rest = text_is edit w (others_text others) in
    let begins = begins_line w.name w.begins in
    let front : beginning text ≡ Ok (Some (place 0 text)) =
    ap beginning e ∙ (reads_from_its_front w.name rest begins (omega (arith, short, ap length e))
    ∙ ap (λ line. Ok (Some (place 0 line))) (sym e)) in
    let time : time_reading (place 0 text) ≡ Ok (None, place 0 text) =
    ap (λ line. time_reading (place 0 line)) e
    ∙ (has_no_time w.name rest begins (still_ends w.args (others_text others) (others_end_a_word others))
    ∙ ap (λ line. Ok (None, place 0 line)) (sym e)) in
    let read = edits_are_read edit others more w few ranges givable in
    ap (read_from more) front ∙ timed_is_read (edit ∷ others) more read.0 (place 0 text) time read.1

-- ---- the laws

short_text : (edit : Edit) (w : IsWritten edit) → length (edit_text edit ++ []) ≤ 4096
short_text edit w =
    let begins = begins_line w.name w.begins in
    omega (
      arith,
      ap length (text_is edit w []),
      length-append w.name (spaced w.args ++ []),
      length-append (spaced w.args) [],
      begins.few,
      w.taken.taken.short,
      w.few,
    )

pub edits_are_read_back : EditsAreReadBack
unfolding others_text
edits_are_read_back edit ranges givable =
    let w = is_written edit ranges givable in
    ap (line_of 0) (sym (append-nil (edit_text edit)))
    ∙ line_says edit [] 0 w (omega arith) (All-nil EditHasRanges) (All-nil IsGivable) (short_text edit w)

head_or : Edit → List Edit → Edit
head_or edit [] = edit
head_or edit (first ∷ others) = first

first_said : Edit → Result (Option (Option ℕ × List Edit)) ℕ → Edit
first_said edit (Ok (Some said)) = head_or edit said.1
first_said edit (Ok None) = edit
first_said edit (Err at) = edit

pub different_edits_have_different_texts : TextsDiffer
unfolding first_said head_or
different_edits_have_different_texts a b ranges_a givable_a ranges_b givable_b same =
    ap (first_said a) (sym (edits_are_read_back a ranges_a givable_a)
    ∙ (ap (line_of 0) same ∙ edits_are_read_back b ranges_b givable_b))

batch_is_read_back : (edits : List Edit) → IsBatch edits → length (batch_text edits) ≤ 4096
    → line_of 15 (batch_text edits) ≡ Ok (Some (None, edits))
unfolding others_text batch_text
batch_is_read_back [] batch short = absurd (omega (arith, batch.some))
batch_is_read_back (edit ∷ others) batch short =
    let w = is_written edit (All-head EditHasRanges edit others batch.ranges) (All-head IsGivable edit others batch.givable) in
    line_says edit others 15 w (omega (arith, batch.few)) (All-tail EditHasRanges edit others batch.ranges)
    (All-tail IsGivable edit others batch.givable) short

pub batches_are_read_back : BatchesAreReadBack
batches_are_read_back = batch_is_read_back
