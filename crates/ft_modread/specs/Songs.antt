-- The module of a file: what becomes of each field.
use Rattle.std.specs.Prelude.{◌≡◌, ℕ, zero, suc, ◌+◌, ◌*◌, ◌≤◌, false, List, [], ◌∷◌, All, take, length, max, nat_lt, slice_index, if◌then◌else◌}
use Rattle.ft_types.specs.declared.module.Module.{Module}
use Rattle.ft_types.specs.declared.instrument.Instrument.{Instrument}
use Rattle.ft_types.specs.declared.pattern.Pattern.{Pattern}
use Rattle.ft_modread.specs.declared.layout.TheConstants.{TITLE, HEADERS_AT, SAMPLES, HEADER, LENGTH_AT, MOST_LENGTH, RESTART_AT, ORDERS_AT, ORDERS, MOST_ORDER, MARK_AT, MOD_MARK, PATTERNS_AT, PATTERN, TRACKER}
use Rattle.ft_modread.specs.Layout.{file_part, each}
use Rattle.ft_modread.specs.Patterns.{pattern_from}
use Rattle.ft_modread.specs.Samples.{data_bytes, instrument_made}

-- a song length of 0 is read as 1
abbrev pub song_length : List ℕ → ℕ
song_length file = max 1 (slice_index file LENGTH_AT)

-- a restart past the song is 0
abbrev pub restart_in : List ℕ → ℕ
restart_in file =
    if nat_lt (slice_index file RESTART_AT) (song_length file) then slice_index file RESTART_AT else 0

-- all orders, those behind the song's end too
abbrev pub all_orders : List ℕ → List ℕ
all_orders file = file_part ORDERS_AT ORDERS file

abbrev pub greatest : List ℕ → ℕ
greatest [] = 0
greatest (x ∷ xs) = max x (greatest xs)

-- one pattern more than the greatest of all orders
unfoldable pub pattern_count_in : List ℕ → ℕ
pattern_count_in file = 1 + greatest (all_orders file)

abbrev pub mod_pattern : List ℕ → ℕ → Pattern
mod_pattern file p = pattern_from (file_part (PATTERNS_AT + PATTERN * p) PATTERN file)

-- the header of sample i, from 0
abbrev pub header_in : List ℕ → ℕ → List ℕ
header_in file i = file_part (HEADERS_AT + HEADER * i) HEADER file

-- where the data of sample i begins: behind the patterns, and the data of the samples before it
unfoldable pub data_place : List ℕ → ℕ → ℕ
data_place file zero = PATTERNS_AT + PATTERN * pattern_count_in file
data_place file (suc i) = data_place file i + data_bytes (header_in file i)

-- data of which the file has only some is filled with 0
abbrev pub instrument_in : List ℕ → ℕ → Instrument
instrument_in file i =
    instrument_made (header_in file i) (file_part (data_place file i) (data_bytes (header_in file i)) file)

-- four channels, Amiga periods, 6 ticks a row, BPM 125
unfoldable pub mod_song : List ℕ → Module
mod_song file = record {
  name = file_part 0 TITLE file;
  tracker = TRACKER;
  restart = restart_in file;
  channels = 4;
  linear = false;
  tempo = 6;
  bpm = 125;
  orders = take (song_length file) (all_orders file);
  patterns = each (pattern_count_in file) (mod_pattern file);
  instruments = each SAMPLES (instrument_in file);
}

-- The bytes spell this module: each field but the data of samples is there whole, the song length is
-- at most 128, each order at most 127, and the mark is M.K. What stands behind the last sample's data
-- is skipped.
pub record SpellsMod (file : List ℕ) (song : Module) : Type 0 where
  pub whole : PATTERNS_AT + PATTERN * pattern_count_in file ≤ length file
  pub length : slice_index file LENGTH_AT ≤ MOST_LENGTH
  pub orders : All (λ order. order ≤ MOST_ORDER) (all_orders file)
  pub mark : file_part MARK_AT 4 file ≡ MOD_MARK
  pub means : mod_song file ≡ song
