-- Patterns and their cells.
use Rattle.std.specs.Prelude.{ℕ, ◌-◌, ◌*◌, ◌%◌, List, [], replicate, Result, Ok, Err, nat_lt, not, ◌==◌, if◌then◌else◌}
use Rattle.ft_types.specs.declared.pattern.Cell.{Cell}
use Rattle.ft_types.specs.declared.pattern.Pattern.{Pattern}
use Rattle.ft_format.specs.declared.cell.RawCell.{RawCell}
use Rattle.ft_format.specs.declared.pattern.PatternHead.{PatternHead}
use Rattle.ft_format.specs.declared.layout.TheConstants.{PATTERN_HEAD, PACKING, MASK, INSTRUMENT_BIT, VOLUME_BIT, EFFECT_BIT, PARAMETER_BIT, EMPTY_CELL}
use Rattle.ft_format.specs.declared.limits.TheConstants.{MOST_ROWS}
use Rattle.ft_format.specs.Pattern.{has, cell_of, rows_of}
use Rattle.ft_xmread.specs.declared.fault.XmFault.{XmFault}
use Rattle.ft_xmread.specs.declared.fault.XmFault.TheVariants.{Count, Packing, CellOverrun, Short}
use Rattle.ft_xmread.specs.Reader.{FileReading, field_at, number_at, count_at, checked, seen, times, byte_if, in_piece, give}
use Rattle.ft_xmread.specs.Parts.{◌>>=◌}

-- ---- cells

-- a first byte below the masks is the note itself
abbrev pub note_spelled_at : ℕ → FileReading ℕ
note_spelled_at first p = if nat_lt first MASK then Ok (first, p) else byte_if (first % 2 == 1) p

-- the first byte, and then those of the five that follow it
unfoldable pub raw_cell_at : FileReading RawCell
raw_cell_at = do
  first ← number_at 1
  note ← note_spelled_at first
  instrument ← byte_if (has first INSTRUMENT_BIT)
  volume ← byte_if (has first VOLUME_BIT)
  effect ← byte_if (has first EFFECT_BIT)
  parameter ← byte_if (has first PARAMETER_BIT)
  give (record {
    first = first;
    cell = record {
      note = note;
      instrument = instrument;
      volume = volume;
      effect = effect;
      parameter = parameter;
    };
  })

-- a cell that ends past the data is refused at its first byte
abbrev pub overrun : ℕ → ℕ → XmFault → XmFault
overrun pattern at (Short _ _) = CellOverrun pattern at
overrun pattern at fault = fault

abbrev pub or_overrun : {A : Type 0} → ℕ → ℕ → Result A XmFault → Result A XmFault
or_overrun pattern at (Ok x) = Ok x
or_overrun pattern at (Err fault) = Err (overrun pattern at fault)

abbrev pub inside : {A : Type 0} → ℕ → FileReading A → FileReading A
inside pattern one p = or_overrun pattern p.at (one p)

unfoldable pub cell_spelled_at : ℕ → FileReading Cell
cell_spelled_at pattern = seen cell_of (inside pattern raw_cell_at)

-- ---- patterns

abbrev pub packing_at : ℕ → FileReading ℕ
packing_at number =
    checked (λ packing. not (packing == PACKING)) (λ _ packing. Packing number packing)
    (number_at 1)

unfoldable pub pattern_head_at : ℕ → FileReading PatternHead
pattern_head_at number = do
  size ← checked (λ size. nat_lt size PATTERN_HEAD) Count (number_at 4)
  _ ← packing_at number
  rows ← count_at MOST_ROWS
  packed ← number_at 2
  give (record { size = size; rows = rows; packed = packed })

-- the cells, and the bytes behind them; no data is a pattern of empty cells
unfoldable pub cells_spelled_at : ℕ → ℕ → ℕ → FileReading (List Cell × List ℕ)
cells_spelled_at number count packed p =
    if packed == 0 then Ok ((replicate count EMPTY_CELL, []), p)
    else in_piece packed (times (λ _. cell_spelled_at number) 0 count) p

-- a head, bytes that are skipped, and the cells; faults count patterns from 0
unfoldable pub pattern_at : ℕ → ℕ → FileReading Pattern
pattern_at channels number = do
  head ← pattern_head_at number
  _ ← field_at (head.size - PATTERN_HEAD)
  cells ← cells_spelled_at number (rows_of head * channels) head.packed
  give (record { rows = rows_of head; cells = cells.0 })
