-- The text of an edit says it with spaces around it too.
use Rattle.std.proofs.Common.{◌≡◌, ℕ, ◌<◌, ◌≤◌, true, cond, ◌||◌, List, [], ◌∷◌, ◌++◌, length, nat_lt, Option, Some, None, Result, Ok, Err, codes, refl, sym, ap, ◌∙◌, append-nil, length-append, arith}
use Rattle.std.specs.Prelude.{bytes_eq}
use Rattle.std.proofs.lemmas.Bool.{or_from, le-ltb, cond-false}
use Rattle.ft_types.specs.declared.edit.Edit.{Edit}
use Rattle.ft_lines.specs.Texts.{spaced, edit_text}
use Rattle.ft_lines.specs.Sequence.{give, follow, ◌>>=◌}
use Rattle.ft_lines.specs.Reading.{LinePlace, spaces, is_over, or_wrong}
use Rattle.ft_lines.specs.Edits.{edit_reading}
use Rattle.ft_lines.specs.Lines.{this_word, begins_with_hash, others_reading, edits_reading, time_if, time_reading, timed_reading, value_only, beginning, read_from, line_of}
use Rattle.ft_lines.proofs.WordsBack.{place, ends_word, word_is_wrong, still_ends, same_behind_space, not_over_behind_space}
use Rattle.ft_lines.proofs.EditsBack.{IsWritten, is_written}
use Rattle.ft_lines.proofs.LinesBack.{BeginsLine, begins_line, text_is, edit_reads, edit_behind_space, reads_from_its_front, has_no_time}
use Rattle.ft_lines.specs.ReadBack.{EditsAreReadInSpaces}

-- what follows an edit in its part: nothing, or a space
pub record IsGap (rest : List ℕ) : Type 0 where
  ends : ends_word rest ≡ true
  short : length rest ≤ 1
  over : (at : ℕ) → others_reading 0 (place at rest) ≡ Ok ([], place at rest)

nothing : IsGap []
unfolding others_reading spaces
nothing = record { ends = refl; short = omega arith; over = λ at. refl }

space : IsGap (32 ∷ [])
unfolding others_reading spaces
space = record { ends = refl; short = omega arith; over = λ at. refl }

-- ---- one edit

one_edit_read : (edit : Edit) (rest : List ℕ) (gap : IsGap rest) (p : LinePlace) (end : ℕ) → edit_reading p ≡ Ok (edit, place end rest)
    → edits_reading 0 p ≡ Ok (edit ∷ [], place end rest)
unfolding edits_reading
one_edit_read edit rest gap p end read =
    let next : Result (Edit × LinePlace) ℕ → Result (List Edit × LinePlace) ℕ = follow (λ e. others_reading 0 >>= (λ es. give (e ∷ es))) in
    let behind : Result (List Edit × LinePlace) ℕ → Result (List Edit × LinePlace) ℕ = follow (λ es. give (edit ∷ es)) in
    ap next read ∙ ap behind (gap.over end)

timed_read : (edits : List Edit) (p q : LinePlace) → time_reading p ≡ Ok (None, p)
    → edits_reading 0 p ≡ Ok (edits, q) → value_only (timed_reading 0 p) ≡ Ok (Some (None, edits))
unfolding timed_reading
timed_read edits p q time read =
    let behind : Result (Option ℕ × LinePlace) ℕ → Result (Option (Option ℕ × List Edit)) ℕ =
    λ r. value_only (follow (λ time. edits_reading 0 >>= (λ es. give (time, es))) r) in
    let last : Result (List Edit × LinePlace) ℕ → Result (Option (Option ℕ × List Edit)) ℕ =
    λ r. value_only (follow (λ es. give (None, es)) r) in
    ap behind time ∙ ap last read

short_enough : (edit : Edit) (w : IsWritten edit) (rest : List ℕ) → IsGap rest → length (edit_text edit ++ rest) < 4096
short_enough edit w rest gap =
    omega (
      arith,
      ap length (text_is edit w rest),
      length-append w.name (spaced w.args ++ rest),
      length-append (spaced w.args) rest,
      (begins_line w.name w.begins).few,
      w.taken.taken.short,
      w.few,
      gap.short,
    )

-- an edit, and what follows it
front_says : (edit : Edit) (w : IsWritten edit) (rest : List ℕ) → IsGap rest
    → line_of 0 (edit_text edit ++ rest) ≡ Ok (Some (None, edit ∷ []))
front_says edit w rest gap =
    let text = edit_text edit ++ rest in
    let behind = spaced w.args ++ rest in
    let e : text ≡ w.name ++ behind = text_is edit w rest in
    let begins = begins_line w.name w.begins in
    let short : length text < 4096 = short_enough edit w rest gap in
    let front : beginning text ≡ Ok (Some (place 0 text)) =
    ap beginning e ∙ (reads_from_its_front w.name behind begins (omega (arith, short, ap length e))
    ∙ ap (λ line. Ok (Some (place 0 line))) (sym e)) in
    let time : time_reading (place 0 text) ≡ Ok (None, place 0 text) =
    ap (λ line. time_reading (place 0 line)) e
    ∙ (has_no_time w.name behind begins (still_ends w.args rest gap.ends) ∙ ap (λ line. Ok (None, place 0 line)) (sym e)) in
    let read = edit_reads edit w 0 rest gap.ends in
    ap (read_from 0) front
    ∙ timed_read (edit ∷ []) (place 0 text) (place read.0 rest) time (one_edit_read edit rest gap (place 0 text) read.0 read.1)

-- ---- the same behind a space

begins_behind_space : (name rest : List ℕ) → BeginsLine name → length (name ++ rest) < 4096
    → beginning (32 ∷ (name ++ rest)) ≡ Ok (Some (place 0 (32 ∷ (name ++ rest))))
unfolding beginning
begins_behind_space name rest begins short =
    let line = 32 ∷ (name ++ rest) in
    let start : Result (Option LinePlace) ℕ = Ok (Some (place 0 line)) in
    cond-false (nat_lt 4096 (length line)) (Err 4096) (cond (begins_with_hash line || is_over (place 0 line)) (Ok None) start)
    (le-ltb 4096 (length line) (omega arith))
    ∙ cond-false (begins_with_hash line || is_over (place 0 line)) (Ok None) start
    (or_from (begins_with_hash line) (is_over (place 0 line)) refl (not_over_behind_space 0 name rest begins.is))

no_time_behind_space : (name rest : List ℕ) → BeginsLine name → ends_word rest ≡ true
    → time_reading (place 0 (32 ∷ (name ++ rest))) ≡ Ok (None, place 0 (32 ∷ (name ++ rest)))
unfolding time_reading
no_time_behind_space name rest begins end =
    let value = this_word (codes "at") in
    let other : value name ≡ None = cond-false (bytes_eq name (codes "at")) (Some name) None begins.no_time in
    let line = 32 ∷ (name ++ rest) in
    ap (λ found. time_if (place 0 line) (follow (λ f. or_wrong f.0 (value f.1)) found)) (same_behind_space 0 (name ++ rest))
    ∙ ap (time_if (place 0 line)) (word_is_wrong value 1 name rest begins.is end other)

behind_says : (edit : Edit) (w : IsWritten edit) (rest : List ℕ) → IsGap rest
    → line_of 0 (32 ∷ (edit_text edit ++ rest)) ≡ Ok (Some (None, edit ∷ []))
behind_says edit w rest gap =
    let text = edit_text edit ++ rest in
    let behind = spaced w.args ++ rest in
    let e : text ≡ w.name ++ behind = text_is edit w rest in
    let begins = begins_line w.name w.begins in
    let short : length text < 4096 = short_enough edit w rest gap in
    let front : beginning (32 ∷ text) ≡ Ok (Some (place 0 (32 ∷ text))) =
    ap (λ line. beginning (32 ∷ line)) e ∙ (begins_behind_space w.name behind begins (omega (arith, short, ap length e))
    ∙ ap (λ line. Ok (Some (place 0 (32 ∷ line)))) (sym e)) in
    let time : time_reading (place 0 (32 ∷ text)) ≡ Ok (None, place 0 (32 ∷ text)) =
    ap (λ line. time_reading (place 0 (32 ∷ line))) e
    ∙ (no_time_behind_space w.name behind begins (still_ends w.args rest gap.ends) ∙ ap (λ line. Ok (None, place 0 (32 ∷ line))) (sym e)) in
    let read = edit_reads edit w 1 rest gap.ends in
    ap (read_from 0) front
    ∙ timed_read (edit ∷ []) (place 0 (32 ∷ text)) (place read.0 rest) time
    (one_edit_read edit rest gap (place 0 (32 ∷ text)) read.0 (edit_behind_space 0 text ∙ read.1))

-- ---- the law

pub edits_are_read_in_spaces : EditsAreReadInSpaces
edits_are_read_in_spaces edit ranges givable =
    let w = is_written edit ranges givable in
    record {
      before = ap (λ line. line_of 0 (32 ∷ line)) (sym (append-nil (edit_text edit))) ∙ behind_says edit w [] nothing;
      behind = front_says edit w (32 ∷ []) space;
      both = behind_says edit w (32 ∷ []) space;
    }
