-- The canonical bytes of a module: the one spelling that is written. Of the raw values that say a
-- module these are chosen, and the canonical bytes are their text.
use Rattle.std.specs.Prelude.{ℕ, ◌+◌, ◌-◌, ◌*◌, ◌%◌, ◌^◌, Bool, true, false, not, ◌==◌, List, [], ◌∷◌, ◌++◌, length, map, flat_map, replicate, if◌then◌else◌}
use Rattle.std.specs.List.{list_all}
use Rattle.std.specs.Int.{w8, w16, cast_unsigned}
use Rattle.ft_types.specs.declared.module.Module.{Module}
use Rattle.ft_types.specs.declared.pattern.Pattern.{Pattern}
use Rattle.ft_types.specs.declared.pattern.Cell.{Cell}
use Rattle.ft_types.specs.declared.instrument.Instrument.{Instrument}
use Rattle.ft_types.specs.declared.sample.Sample.{Sample}
use Rattle.ft_format.specs.declared.header.Titles.{Titles}
use Rattle.ft_format.specs.declared.header.Sizes.{Sizes}
use Rattle.ft_format.specs.declared.header.Settings.{Settings}
use Rattle.ft_format.specs.declared.cell.RawCell.{RawCell}
use Rattle.ft_format.specs.declared.sample.SampleHeader.{SampleHeader}
use Rattle.ft_format.specs.declared.instrument.InstrumentHead.{InstrumentHead}
use Rattle.ft_format.specs.declared.instrument.Extra.{Extra}
use Rattle.ft_format.specs.declared.layout.TheConstants.{CAPITAL, MARK, HEADER_SIZE, ORDER_TABLE, MASK, PATTERN_HEAD, SHORT_HEAD, LONG_HEAD, UNUSED, SAMPLE_HEADER, NO_EXTRA}
use Rattle.ft_format.specs.Fields.{two_bytes}
use Rattle.ft_format.specs.Header.{RawHeader, header_text}
use Rattle.ft_format.specs.Pattern.{RawPattern, raw_cell_text, pattern_text}
use Rattle.ft_format.specs.Sample.{RawSample, sample_header_text}
use Rattle.ft_format.specs.Instrument.{RawRest, RawInstrument, instrument_text}
use Rattle.ft_format.specs.Spelling.{RawSong, identification_with, song_text}

-- ---- the header

abbrev pub titles_of : Module → Titles
titles_of song = record { name = song.name; mark = MARK; tracker = song.tracker }

abbrev pub sizes_of : Module → Sizes
sizes_of song = record {
  size = HEADER_SIZE;
  length = length song.orders;
  restart = song.restart;
  channels = song.channels;
}

-- bit 0 of the flags says that periods are linear
abbrev pub settings_of : Module → Settings
settings_of song = record {
  patterns = length song.patterns;
  instruments = length song.instruments;
  flags = if song.linear then 1 else 0;
  tempo = song.tempo;
  bpm = song.bpm;
}

-- a whole order table, of which the song has the first
abbrev pub order_table : List ℕ → List ℕ
order_table orders = orders ++ replicate (ORDER_TABLE - length orders) 0

abbrev pub raw_header_of : Module → RawHeader
raw_header_of song = record {
  titles = titles_of song;
  sizes = sizes_of song;
  settings = settings_of song;
  orders = order_table song.orders;
}

abbrev pub header_bytes : Module → List ℕ
header_bytes song = identification_with CAPITAL ++ header_text (raw_header_of song)

-- ---- patterns

abbrev pub bytes_of_cell : Cell → List ℕ
bytes_of_cell cell = cell.note ∷ cell.instrument ∷ cell.volume ∷ cell.effect ∷ cell.parameter ∷ []

abbrev pub is_set : ℕ → Bool
is_set x = not (x == 0)

-- a bit for each byte of a cell that isn't 0, the note's the lowest
abbrev pub mask_of : List ℕ → ℕ
mask_of [] = 0
mask_of (x ∷ xs) = (if is_set x then 1 else 0) + 2 * mask_of xs

-- the note where none of the five bytes is 0; else a mask, and behind it those that aren't 0
abbrev pub first_byte_of : Cell → ℕ
first_byte_of cell =
    if list_all is_set (bytes_of_cell cell) then cell.note else MASK + mask_of (bytes_of_cell cell)

abbrev pub raw_cell_of : Cell → RawCell
raw_cell_of cell = record { first = first_byte_of cell; cell = cell }

abbrev pub cell_bytes : Cell → List ℕ
cell_bytes cell = raw_cell_text (raw_cell_of cell)

abbrev pub is_empty_cell : Cell → Bool
is_empty_cell cell = list_all (λ x. x == 0) (bytes_of_cell cell)

-- a pattern of empty cells says none
abbrev pub raw_cells_of : List Cell → List RawCell
raw_cells_of cells = if list_all is_empty_cell cells then [] else map raw_cell_of cells

abbrev pub raw_pattern_of : Pattern → RawPattern
raw_pattern_of pattern = record {
  head = record {
    size = PATTERN_HEAD;
    rows = pattern.rows;
    packed = length (flat_map raw_cell_text (raw_cells_of pattern.cells));
  };
  skipped = [];
  cells = raw_cells_of pattern.cells;
  surplus = [];
}

abbrev pub pattern_bytes : Pattern → List ℕ
pattern_bytes pattern = pattern_text (raw_pattern_of pattern)

-- ---- samples

abbrev pub frame_size : Sample → ℕ
frame_size sample = if sample.wide then 2 else 1

-- length, loop start and loop length count bytes; bits 0 and 1 of the type are the kind of loop,
-- bit 4 says frames of 16 bits
abbrev pub sample_header_of : Sample → SampleHeader
sample_header_of sample = record {
  length = frame_size sample * length sample.frames;
  loop_start = frame_size sample * sample.loop_start;
  loop_len = frame_size sample * sample.loop_len;
  volume = sample.volume;
  finetune = cast_unsigned w8 sample.finetune;
  kind = sample.loop_kind + (if sample.wide then 16 else 0);
  panning = sample.panning;
  relative = cast_unsigned w8 sample.relative;
  skipped = 0;
  name = sample.name;
}

abbrev pub sample_header_bytes : Sample → List ℕ
sample_header_bytes sample = sample_header_text (sample_header_of sample)

-- each number as the step from the one before it, which wraps at `span`
abbrev pub steps_from : ℕ → ℕ → List ℕ → List ℕ
steps_from span before [] = []
steps_from span before (x ∷ xs) = (x + (span - before)) % span ∷ steps_from span x xs

-- frames in two's complement as steps, which begin at 0
unfoldable pub sample_data : Sample → List ℕ
sample_data sample =
    if sample.wide then flat_map two_bytes
    (steps_from (2 ^ 16) 0 (map (cast_unsigned w16) sample.frames))
    else steps_from (2 ^ 8) 0 (map (cast_unsigned w8) sample.frames)

abbrev pub raw_sample_of : Sample → RawSample
raw_sample_of sample = record { header = sample_header_of sample; steps = sample_data sample }

-- ---- instruments

-- the size of a head without samples, and of one with samples
abbrev pub head_size : Bool → ℕ
head_size true = SHORT_HEAD
head_size false = LONG_HEAD

abbrev pub instrument_head_of : Instrument → InstrumentHead
instrument_head_of instrument = record {
  size = head_size (length instrument.samples == 0);
  name = instrument.name;
  kind = 0;
  samples = length instrument.samples;
}

abbrev pub extra_of : Instrument → Extra
extra_of instrument = record {
  header_size = SAMPLE_HEADER;
  map = instrument.map;
  envelopes = record { volume = instrument.volume; panning = instrument.panning };
  vibrato = instrument.vibrato;
  fadeout = instrument.fadeout;
}

-- an instrument without samples says nothing but its name
abbrev pub rest_of : Bool → Instrument → RawRest
rest_of true instrument = record { extra = NO_EXTRA; skipped = []; samples = [] }
rest_of false instrument = record {
  extra = extra_of instrument;
  skipped = replicate UNUSED 0;
  samples = map raw_sample_of instrument.samples;
}

abbrev pub raw_instrument_of : Instrument → RawInstrument
raw_instrument_of instrument = record {
  head = instrument_head_of instrument;
  rest = rest_of (length instrument.samples == 0) instrument;
}

abbrev pub instrument_bytes : Instrument → List ℕ
instrument_bytes instrument = instrument_text (raw_instrument_of instrument)

-- ---- the file

abbrev pub raw_song_of : Module → RawSong
raw_song_of song = record {
  letter = CAPITAL;
  header = raw_header_of song;
  patterns = map raw_pattern_of song.patterns;
  instruments = map raw_instrument_of song.instruments;
}

unfoldable pub canon : Module → List ℕ
canon song = song_text (raw_song_of song)
