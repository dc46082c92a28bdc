-- What is written of an edit and of a batch is read again.
use Rattle.std.specs.Prelude.{◌≡◌, ◌≤◌, List, [], ◌∷◌, ◌++◌, length, Some, None, Ok}
use Rattle.std.specs.List.{All}
use Rattle.ft_types.specs.declared.edit.Edit.{Edit}
use Rattle.ft_types.specs.Edits.{IsGivable}
use Rattle.ft_types.specs.EditParts.{EditHasRanges}
use Rattle.ft_lines.specs.Texts.{edit_text, batch_text}
use Rattle.ft_lines.specs.Lines.{line_of}

-- the text of an edit says that edit
abbrev pub IsReadBack : Edit → Type 0
IsReadBack edit = line_of 0 (edit_text edit) ≡ Ok (Some (None, edit ∷ []))

abbrev pub EditsAreReadBack : Type 0
EditsAreReadBack = (edit : Edit) → EditHasRanges edit → IsGivable edit → IsReadBack edit

-- and also with a space before it, behind it, or both
pub record IsReadInSpaces (edit : Edit) : Type 0 where
  pub before : line_of 0 (32 ∷ edit_text edit) ≡ Ok (Some (None, edit ∷ []))
  pub behind : line_of 0 (edit_text edit ++ 32 ∷ []) ≡ Ok (Some (None, edit ∷ []))
  pub both : line_of 0 (32 ∷ (edit_text edit ++ 32 ∷ [])) ≡ Ok (Some (None, edit ∷ []))

abbrev pub EditsAreReadInSpaces : Type 0
EditsAreReadInSpaces = (edit : Edit) → EditHasRanges edit → IsGivable edit → IsReadInSpaces edit

-- so different edits have different texts
abbrev pub TextsDiffer : Type 0
TextsDiffer = (a b : Edit) → EditHasRanges a → IsGivable a → EditHasRanges b → IsGivable b
    → edit_text a ≡ edit_text b → a ≡ b

-- a batch of 1 to 16 such edits
pub record IsBatch (edits : List Edit) : Type 0 where
  pub some : 1 ≤ length edits
  pub few : length edits ≤ 16
  pub ranges : All EditHasRanges edits
  pub givable : All IsGivable edits

-- the text of a batch of 1 to 16 edits that can be given says that batch, where it is short enough
-- for a line
abbrev pub IsBatchReadBack : List Edit → Type 0
IsBatchReadBack edits = 1 ≤ length edits → length edits ≤ 16 → All IsGivable edits
    → length (batch_text edits) ≤ 4096 → line_of 15 (batch_text edits) ≡ Ok (Some (None, edits))

-- the text of a batch says that batch, where it is short enough for a line
abbrev pub BatchesAreReadBack : Type 0
BatchesAreReadBack = (edits : List Edit) → IsBatch edits → length (batch_text edits) ≤ 4096
    → line_of 15 (batch_text edits) ≡ Ok (Some (None, edits))
