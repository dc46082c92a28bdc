-- The numbers that faults name: which field is out of its range, and of what there would be too
-- many.
use Rattle.std.specs.Prelude.{ℕ}

-- ---- the fields of a range

abbrev pub field_note : ℕ
field_note = 1

abbrev pub field_rows : ℕ
field_rows = 2

-- of a block
abbrev pub field_size : ℕ
field_size = 3

abbrev pub field_tempo : ℕ
field_tempo = 4

abbrev pub field_bpm : ℕ
field_bpm = 5

-- points of an envelope in use
abbrev pub field_count : ℕ
field_count = 6

-- of a note of a map, or of a point of an envelope
abbrev pub field_index : ℕ
field_index = 7

abbrev pub field_flags : ℕ
field_flags = 8

-- a volume, or the value of a point
abbrev pub field_level : ℕ
field_level = 9

-- of a loop, or of a vibrato
abbrev pub field_kind : ℕ
field_kind = 10

abbrev pub field_depth : ℕ
field_depth = 11

abbrev pub field_rate : ℕ
field_rate = 12

-- a sample number of a map
abbrev pub field_map : ℕ
field_map = 13

abbrev pub field_divisor : ℕ
field_divisor = 14

abbrev pub field_bits : ℕ
field_bits = 15

abbrev pub field_frame : ℕ
field_frame = 16

-- the number of orders
abbrev pub field_length : ℕ
field_length = 17

-- which envelope
abbrev pub field_which : ℕ
field_which = 18

-- ---- what there would be too many of

abbrev pub kind_orders : ℕ
kind_orders = 1

abbrev pub kind_patterns : ℕ
kind_patterns = 2

abbrev pub kind_instruments : ℕ
kind_instruments = 3

abbrev pub kind_samples : ℕ
kind_samples = 4

abbrev pub kind_frames : ℕ
kind_frames = 5
