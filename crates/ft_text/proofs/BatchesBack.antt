-- The text of a batch, cut at each `;`, gives its edits.
use Rattle.std.proofs.Common.{◌≡◌, ℕ, ◌≤◌, true, ◌&&◌, List, [], ◌∷◌, ◌++◌, length, nat_le, Some, None, Ok, codes, refl, sym, ap, ◌∙◌, append_assoc, append-nil, arith}
use Rattle.std.specs.Prelude.{bytes_eq}
use Rattle.std.specs.List.{All, flat_map}
use Rattle.std.proofs.lemmas.Bool.{and_from, le-leb, cond-true}
use Rattle.std.proofs.lemmas.Slice.Eq.{bytes_eq-Decides}
use Rattle.std.proofs.lemmas.List.Elements.{All-head, All-tail}
use Rattle.ft_types.specs.declared.edit.Edit.{Edit}
use Rattle.ft_types.specs.Edits.{IsGivable}
use Rattle.ft_lines.specs.Words.{words_of}
use Rattle.ft_lines.specs.Texts.{edit_text, batch_text}
use Rattle.ft_lines.specs.Lines.{line_of}
use Rattle.ft_types.specs.EditParts.{EditHasRanges}
use Rattle.ft_lines.specs.ReadBack.{IsBatch}
use Rattle.ft_text.specs.LedgerWords.{one_edit, then_others, each_edit, if_text, most_edits, batch_of}
use Rattle.ft_text.proofs.SplitsBack.{split, split_at, split_end, avoids, avoids_append, text_avoids, no_separator}
use Rattle.ft_text.proofs.LedgerLinesBack.{TextGives}
use Rattle.ft_text.specs.Known.{Known}

-- ---- parts

-- bytes that say an edit, also in front of a space
pub record SaysEdit (edit : Edit) (x : List ℕ) : Type 0 where
  alone : line_of 0 x ≡ Ok (Some (None, edit ∷ []))
  spaced : line_of 0 (x ++ 32 ∷ []) ≡ Ok (Some (None, edit ∷ []))
  whole : avoids 59 x ≡ true

no_separator_in : (known : Known) (edit : Edit) → avoids 59 (edit_text edit) ≡ true
unfolding edit_text
no_separator_in known edit = text_avoids 59 refl no_separator (words_of edit) (known.plain_words edit)

first_part : (known : Known) (edit : Edit) → EditHasRanges edit → IsGivable edit → SaysEdit edit (edit_text edit)
first_part known edit ranges givable = record {
  alone = known.edit_back edit ranges givable;
  spaced = (known.edit_in_spaces edit ranges givable).behind;
  whole = no_separator_in known edit;
}

later_part : (known : Known) (edit : Edit) → EditHasRanges edit → IsGivable edit → SaysEdit edit (32 ∷ edit_text edit)
later_part known edit ranges givable = record {
  alone = (known.edit_in_spaces edit ranges givable).before;
  spaced = (known.edit_in_spaces edit ranges givable).both;
  whole = no_separator_in known edit;
}

abbrev others : List Edit → List ℕ
others edits = flat_map (λ other. codes " ; " ++ edit_text other) edits

-- the parts of a text that begins so
abbrev parts_from : List ℕ → List Edit → List (List ℕ)
parts_from x [] = x ∷ []
parts_from x (edit ∷ edits) = (x ++ 32 ∷ []) ∷ parts_from (32 ∷ edit_text edit) edits

cut : (known : Known) (x : List ℕ) (edits : List Edit) → avoids 59 x ≡ true → split 59 (x ++ others edits) ≡ parts_from x edits
cut known x [] none = ap (split 59) (append-nil x) ∙ split_end 59 x none
cut known x (edit ∷ edits) none =
    let rest = 32 ∷ (edit_text edit ++ others edits) in
    let e : x ++ others (edit ∷ edits) ≡ (x ++ 32 ∷ []) ++ (59 ∷ rest) = sym (append_assoc x (32 ∷ []) (59 ∷ rest)) in
    ap (split 59) e
    ∙ split_at 59 (x ++ 32 ∷ []) rest (avoids_append 59 x (32 ∷ []) none refl)
    ∙ ap (λ parts. (x ++ 32 ∷ []) ∷ parts) (cut known (32 ∷ edit_text edit) edits (no_separator_in known edit))

each_says : (known : Known) (x : List ℕ) (edit : Edit) (edits : List Edit) → SaysEdit edit x → All EditHasRanges edits → All IsGivable edits
    → each_edit (parts_from x edits) ≡ Some (edit ∷ edits)
each_says known x edit [] says ranges givable = ap (λ said. then_others (Some []) (one_edit said)) says.alone
each_says known x edit (next ∷ edits) says ranges givable =
    let later = later_part known next (All-head EditHasRanges next edits ranges) (All-head IsGivable next edits givable) in
    let rest = each_says known (32 ∷ edit_text next) next edits later (All-tail EditHasRanges next edits ranges)
    (All-tail IsGivable next edits givable) in
    ap (λ es. then_others es (one_edit (line_of 0 (x ++ 32 ∷ [])))) rest
    ∙ ap (λ said. then_others (Some (next ∷ edits)) (one_edit said)) says.spaced

-- ---- a batch

pub text_gives : (known : Known) (form : ℕ) (edits : List Edit) → IsBatch edits → length edits ≤ most_edits form → TextGives form edits
unfolding batch_of batch_text
text_gives known form [] batch few = absurd (omega (arith, batch.some))
text_gives known form (edit ∷ edits) batch few =
    let ranges = All-tail EditHasRanges edit edits batch.ranges in
    let givable = All-tail IsGivable edit edits batch.givable in
    let first = first_part known edit (All-head EditHasRanges edit edits batch.ranges) (All-head IsGivable edit edits batch.givable) in
    let text = edit_text edit ++ others edits in
    let most = most_edits form in
    let all : each_edit (split 59 text) ≡ Some (edit ∷ edits) =
    ap each_edit (cut known (edit_text edit) edits (no_separator_in known edit))
    ∙ each_says known (edit_text edit) edit edits first ranges givable in
    ap (if_text most text) all
    ∙ cond-true (nat_le (length (edit ∷ edits)) most && bytes_eq text text) (Some (edit ∷ edits)) None
    (and_from (nat_le (length (edit ∷ edits)) most) (bytes_eq text text) (le-leb (length (edit ∷ edits)) most few)
    ((bytes_eq-Decides text text).1 refl))
