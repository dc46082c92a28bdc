-- Rows of bytes or ids in which one is another.
use Rattle.std.specs.Prelude.{◌≡◌, ℕ, ◌==◌, List, slice_index, if◌then◌else◌}

-- the rows are the same but at one place, where the new one has this number; past their ends rows have 0
abbrev pub IsOneChanged : ℕ → ℕ → List ℕ → List ℕ → Type 0
IsOneChanged at number row new =
    (j : ℕ) → slice_index new j ≡ (if j == at then number else slice_index row j)
