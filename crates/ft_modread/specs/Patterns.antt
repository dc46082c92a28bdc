-- Patterns: 64 rows of 4 cells of 4 bytes.
use Rattle.std.specs.Prelude.{ℕ, ◌+◌, ◌*◌, ◌/◌, ◌%◌, List, slice_index}
use Rattle.ft_types.specs.declared.pattern.Cell.{Cell}
use Rattle.ft_types.specs.declared.pattern.Pattern.{Pattern}
use Rattle.ft_modread.specs.declared.layout.TheConstants.{CELLS}
use Rattle.ft_modread.specs.Layout.{each}
use Rattle.ft_modread.specs.Notes.{period_note}
use Rattle.ft_modread.specs.Effects.{mod_effect, mod_parameter}

-- Four bytes: the high digit of the instrument, three digits of the period, the low digit of the
-- instrument, the effect, two digits of its parameter.
unfoldable pub cell_from : ℕ → ℕ → ℕ → ℕ → Cell
cell_from a b c d = record {
  note = period_note (256 * (a % 16) + b);
  instrument = 16 * (a / 16) + c / 16;
  volume = 0;
  effect = mod_effect (c % 16) d;
  parameter = mod_parameter (c % 16) d;
}

-- cell k of a pattern
abbrev pub mod_cell : List ℕ → ℕ → Cell
mod_cell bytes k =
    cell_from (slice_index bytes (4 * k)) (slice_index bytes (4 * k + 1)) (slice_index bytes (4 * k + 2))
    (slice_index bytes (4 * k + 3))

unfoldable pub pattern_from : List ℕ → Pattern
pattern_from bytes = record { rows = 64; cells = each CELLS (mod_cell bytes) }
