-- Patterns in buffers of cells.
use Rattle.std.specs.Prelude.{ℕ, ◌*◌, ◌≡◌, List, [], Option, None, Some, slice_get, take}
use Rattle.ft_types.specs.declared.module.Module.{Module}
use Rattle.ft_types.specs.declared.pattern.Pattern.{Pattern}
use Rattle.ft_types.specs.declared.pattern.Cell.{Cell}
use Rattle.ft_types.specs.declared.edit.Edit.{Edit}
use Rattle.ft_types.specs.declared.edit.Edit.TheVariants as edits

-- the pattern of that many rows with which a buffer begins, in a song of that many channels
abbrev pub pattern_in : ℕ → ℕ → List Cell → Pattern
pattern_in rows channels cells = record { rows = rows; cells = take (rows * channels) cells }

abbrev pub cells_in : Option Pattern → List Cell
cells_in None = []
cells_in (Some pattern) = pattern.cells

-- the cells of a pattern; none where it isn't stored
abbrev pub cells_at : Module → ℕ → List Cell
cells_at song p = cells_in (slice_get song.patterns p)

-- a copy is taken from all cells of its first pattern; other edits look at no source
abbrev pub IsSource : Module → Edit → List Cell → Type 0
IsSource song (edits.Copy p r c h w q r2 c2) source = source ≡ cells_at song p
IsSource song _ source = Unit {0}

-- only `rows` gives a pattern another number of rows
abbrev pub KeepsRows : Edit → Type 0
KeepsRows (edits.Rows p n) = ⊥
KeepsRows _ = Unit {0}
