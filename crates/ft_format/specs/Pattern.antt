-- Patterns and their cells: what a file says, its bytes, and what it means.
use Rattle.std.specs.Prelude.{◌≡◌, ℕ, ◌≤◌, ◌*◌, ◌/◌, ◌%◌, ◌-◌, Bool, true, false, List, [], ◌++◌, replicate, map, flat_map, nat_lt, nat_le, ◌==◌, ◌||◌, if◌then◌else◌}
use Rattle.ft_types.specs.declared.pattern.Pattern.{Pattern}
use Rattle.ft_types.specs.declared.pattern.Cell.{Cell}
use Rattle.ft_format.specs.declared.pattern.PatternHead.{PatternHead}
use Rattle.ft_format.specs.declared.cell.RawCell.{RawCell}
use Rattle.ft_format.specs.declared.layout.TheConstants.{PATTERN_HEAD, PACKING, MASK, INSTRUMENT_BIT, VOLUME_BIT, EFFECT_BIT, PARAMETER_BIT, EMPTY_CELL}
use Rattle.ft_format.specs.declared.limits.TheConstants.{MOST_ROWS, ROWS_FOR_NONE, KEY_OFF}
use Rattle.ft_format.specs.Fields.{byte, two_bytes, four_bytes, IsNumber, IsField, AllFit, FitsWithin, byte_if_text, IsByteIf}

-- ---- cells

-- Behind a first byte below the masks, which is the note itself, the four other bytes follow. Any
-- other first byte is a mask: its five low bits say which of the five bytes follow.
abbrev pub has : ℕ → ℕ → Bool
has first bit = nat_lt first MASK || (first / bit % 2 == 1)

abbrev pub note_text : Bool → ℕ → ℕ → List ℕ
note_text true first note = []
note_text false first note = byte_if_text (first % 2 == 1) note

abbrev pub IsNoteByte : Bool → ℕ → ℕ → Type 0
IsNoteByte true first note = note ≡ first
IsNoteByte false first note = IsByteIf (first % 2 == 1) note

-- the first byte, and those of the five bytes that follow it
unfoldable pub raw_cell_text : RawCell → List ℕ
raw_cell_text raw = byte raw.first ++ (note_text (nat_lt raw.first MASK) raw.first raw.cell.note
    ++ (byte_if_text (has raw.first INSTRUMENT_BIT) raw.cell.instrument
    ++ (byte_if_text (has raw.first VOLUME_BIT) raw.cell.volume
    ++ (byte_if_text (has raw.first EFFECT_BIT) raw.cell.effect
    ++ byte_if_text (has raw.first PARAMETER_BIT) raw.cell.parameter))))

pub record RawCellFits (raw : RawCell) : Type 0 where
  pub first : IsNumber 1 raw.first
  pub note : IsNoteByte (nat_lt raw.first MASK) raw.first raw.cell.note
  pub instrument : IsByteIf (has raw.first INSTRUMENT_BIT) raw.cell.instrument
  pub volume : IsByteIf (has raw.first VOLUME_BIT) raw.cell.volume
  pub effect : IsByteIf (has raw.first EFFECT_BIT) raw.cell.effect
  pub parameter : IsByteIf (has raw.first PARAMETER_BIT) raw.cell.parameter

-- a note past the key off is none
abbrev pub cell_of : RawCell → Cell
cell_of raw = record raw.cell { note = if nat_le raw.cell.note KEY_OFF then raw.cell.note else 0 }

-- ---- patterns

-- a head, bytes of it that are skipped, cells, and a surplus of data
pub record RawPattern : Type 0 where
  pub head : PatternHead
  pub skipped : List ℕ
  pub cells : List RawCell
  pub surplus : List ℕ

-- header length, packing, rows, bytes of data
abbrev pub pattern_head_text : PatternHead → List ℕ
pattern_head_text head =
    four_bytes head.size ++ (byte PACKING ++ (two_bytes head.rows ++ two_bytes head.packed))

pub record PatternHeadFits (head : PatternHead) : Type 0 where
  pub size : IsNumber 4 head.size
  pub whole : PATTERN_HEAD ≤ head.size
  pub rows : head.rows ≤ MOST_ROWS
  pub packed : IsNumber 2 head.packed

unfoldable pub pattern_text : RawPattern → List ℕ
pattern_text raw =
    pattern_head_text raw.head ++ (raw.skipped ++ (flat_map raw_cell_text raw.cells ++ raw.surplus))

-- no data, or that many cells and a surplus in as many bytes as the head says
abbrev pub DataFits : Bool → ℕ → ℕ → List RawCell × List ℕ → Type 0
DataFits true count packed x = x ≡ ([], [])
DataFits false count packed x =
    FitsWithin packed (flat_map raw_cell_text) (AllFit count RawCellFits) x

-- 0 rows are read as 64
abbrev pub rows_of : PatternHead → ℕ
rows_of head = if head.rows == 0 then ROWS_FOR_NONE else head.rows

pub record RawPatternFits (channels : ℕ) (raw : RawPattern) : Type 0 where
  pub head : PatternHeadFits raw.head
  pub skipped : IsField (raw.head.size - PATTERN_HEAD) raw.skipped
  pub cells : DataFits (raw.head.packed == 0) (rows_of raw.head * channels) raw.head.packed
      (raw.cells, raw.surplus)

-- a pattern without data has empty cells
unfoldable pub pattern_of : ℕ → RawPattern → Pattern
pattern_of channels raw = record {
  rows = rows_of raw.head;
  cells = if raw.head.packed == 0
      then replicate (rows_of raw.head * channels) EMPTY_CELL
      else map cell_of raw.cells;
}
