-- Blocks of cells.
use Rattle.std.specs.Prelude.{ℕ, ◌+◌, ◌-◌, ◌*◌, ◌/◌, ◌%◌, List, get_or, if◌then◌else◌}
use Rattle.ft_types.specs.declared.pattern.Cell.{Cell}
use Rattle.ft_types.specs.Views.{empty_cell}
use Rattle.ft_edits.specs.Patterns.{in_block}

-- a cell of a block changed by its row, its channel and itself; another stays
abbrev pub blocked : ℕ → ℕ → ℕ → ℕ → ℕ → (ℕ → ℕ → Cell → Cell) → ℕ → Cell → Cell
blocked channels r c h w change place cell =
    if in_block r c h w (place / channels) (place % channels)
    then change (place / channels) (place % channels) cell else cell

-- the cell of a source that is as far from row r and channel c as this one from r2 and c2
abbrev pub sourced : ℕ → List Cell → ℕ → ℕ → ℕ → ℕ → ℕ → ℕ → Cell → Cell
sourced channels source r c r2 c2 row channel cell =
    get_or source ((r + (row - r2)) * channels + (c + (channel - c2))) empty_cell
