-- The text of an edit, and of a batch.
use Rattle.std.specs.Prelude.{ℕ, List, [], ◌∷◌, ◌++◌, codes}
use Rattle.std.specs.List.{flat_map}
use Rattle.ft_types.specs.declared.edit.Edit.{Edit}
use Rattle.ft_lines.specs.Words.{words_of}

-- each word behind a space
abbrev pub spaced : List (List ℕ) → List ℕ
spaced words = flat_map (λ word. 32 ∷ word) words

-- words with one space between two of them
abbrev pub text_of_words : List (List ℕ) → List ℕ
text_of_words [] = []
text_of_words (word ∷ words) = word ++ spaced words

-- an edit
unfoldable pub edit_text : Edit → List ℕ
edit_text edit = text_of_words (words_of edit)

-- a batch: its edits with ` ; ` between two of them
unfoldable pub batch_text : List Edit → List ℕ
batch_text [] = []
batch_text (edit ∷ others) =
    edit_text edit ++ flat_map (λ other. codes " ; " ++ edit_text other) others
