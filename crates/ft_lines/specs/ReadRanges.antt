-- What is read is in the ranges of its types, and is read again from its own text.
use Rattle.std.specs.Prelude.{◌≡◌, ℕ, ◌+◌, ◌^◌, ◌<◌, ◌≤◌, List, [], ◌∷◌, length, Option, Some, None, Ok, IfSome}
use Rattle.std.specs.List.{All}
use Rattle.ft_types.specs.declared.edit.Edit.{Edit}
use Rattle.ft_types.specs.Edits.{IsGivable}
use Rattle.ft_types.specs.EditParts.{EditHasRanges}
use Rattle.ft_lines.specs.Texts.{batch_text}
use Rattle.ft_lines.specs.Lines.{line_of}
use Rattle.ft_lines.specs.ReadBack.{IsReadBack}

-- a time or none, and 1 to that many edits whose values are in the ranges of their types
pub record IsLineInRange (most : ℕ) (at : Option ℕ) (edits : List Edit) : Type 0 where
  pub time : IfSome at (λ t. t < 2 ^ 32)
  pub some : 1 ≤ length edits
  pub few : length edits ≤ most
  pub ranges : All EditHasRanges edits
  pub givable : All IsGivable edits

-- what a line says is in range
abbrev pub LinesAreInRange : Type 0
LinesAreInRange = (more : ℕ) (line : List ℕ) (time : Option ℕ) (edits : List Edit)
    → line_of more line ≡ Ok (Some (time, edits)) → IsLineInRange (more + 1) time edits

-- so an edit that some line says is what its own text says
abbrev pub ReadEditsAreReadBack : Type 0
ReadEditsAreReadBack = (line : List ℕ) (time : Option ℕ) (edit : Edit)
    → line_of 0 line ≡ Ok (Some (time, edit ∷ [])) → IsReadBack edit

-- and so are the edits of a batch, where their text is short enough for a line
abbrev pub ReadBatchesAreReadBack : Type 0
ReadBatchesAreReadBack = (line : List ℕ) (time : Option ℕ) (edits : List Edit)
    → line_of 15 line ≡ Ok (Some (time, edits)) → length (batch_text edits) ≤ 4096
    → line_of 15 (batch_text edits) ≡ Ok (Some (None, edits))
