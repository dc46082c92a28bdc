-- What edits make of patterns.
use Rattle.std.specs.Prelude.{ℕ, ◌+◌, ◌-◌, ◌*◌, ◌/◌, ◌%◌, ◌&&◌, Bool, false, List, ◌++◌, length, take, drop, set, replicate, ℤ, pos, negsuc, ◌+ℤ◌, nat_abs, nat_lt, nat_le, if◌then◌else◌}
use Rattle.ft_types.specs.declared.module.Module.{Module}
use Rattle.ft_types.specs.declared.pattern.Pattern.{Pattern}
use Rattle.ft_types.specs.declared.pattern.Cell.{Cell}
use Rattle.ft_types.specs.Views.{empty_cell, cell_at}
use Rattle.ft_edits.specs.Lists.{changed_at, each_from}

-- the pattern of a number changed
abbrev pub with_pattern : ℕ → (Pattern → Pattern) → Module → Module
with_pattern p change song = record song { patterns = changed_at p change song.patterns }

abbrev pub with_cells : (List Cell → List Cell) → Pattern → Pattern
with_cells change pattern = record pattern { cells = change pattern.cells }

-- ---- cells and rows, in a song of that many channels

abbrev pub empty_rows : ℕ → ℕ → List Cell
empty_rows channels rows = replicate (rows * channels) empty_cell

abbrev pub with_cell : ℕ → ℕ → ℕ → Cell → Pattern → Pattern
with_cell channels r c cell = with_cells (λ cells. set cells (r * channels + c) cell)

-- that many rows: cut, or filled with empty ones
abbrev pub with_rows : ℕ → ℕ → Pattern → Pattern
with_rows channels n pattern =
    record { rows = n; cells = take (n * channels) (pattern.cells ++ empty_rows channels n) }

-- an empty row before a row, and the last one drops out
abbrev pub with_new_row : ℕ → ℕ → Pattern → Pattern
with_new_row channels r pattern =
    with_cells
    (λ cells.
    take (length cells)
    (take (r * channels) cells ++ (empty_rows channels 1 ++ drop (r * channels) cells)))
    pattern

-- a row goes, and an empty one comes last
abbrev pub without_row : ℕ → ℕ → Pattern → Pattern
without_row channels r =
    with_cells
    (λ cells.
    take (r * channels) cells
    ++ (drop (r * channels + channels) cells ++ empty_rows channels 1))

abbrev pub empty_pattern : ℕ → ℕ → Pattern
empty_pattern channels n = record { rows = n; cells = empty_rows channels n }

-- ---- blocks: h rows of w channels from row r and channel c

abbrev pub in_block : ℕ → ℕ → ℕ → ℕ → ℕ → ℕ → Bool
in_block r c h w row channel =
    nat_le r row && nat_lt row (r + h) && nat_le c channel && nat_lt channel (c + w)

-- each cell of a block changed by its row, its channel and itself
abbrev pub with_block : ℕ → ℕ → ℕ → ℕ → ℕ → (ℕ → ℕ → Cell → Cell) → Pattern → Pattern
with_block channels r c h w change =
    with_cells (each_from (λ place cell.
    if in_block r c h w (place / channels) (place % channels)
    then change (place / channels) (place % channels) cell else cell) 0)

abbrev pub is_note_number : ℤ → Bool
is_note_number (pos note) = nat_lt 0 note && nat_le note 96
is_note_number (negsuc below) = false

-- a note moved by that many semitones, where it stays one; other notes stay as they are
abbrev pub moved_note : ℤ → ℕ → ℕ
moved_note d note =
    if is_note_number (pos note) && is_note_number (pos note +ℤ d) then nat_abs (pos note +ℤ d)
    else note

abbrev pub moved_cell : ℤ → Cell → Cell
moved_cell d cell = record cell { note = moved_note d cell.note }

-- the cell of the song that is as far from row r and channel c as this one from r2 and c2
abbrev pub copied : Module → ℕ → ℕ → ℕ → ℕ → ℕ → ℕ → ℕ → Cell
copied song p r c r2 c2 row channel = cell_at song p (r + (row - r2)) (c + (channel - c2))
