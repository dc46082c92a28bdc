-- What holds of the definitions, whatever bytes and song are.
use Rattle.std.specs.Prelude.{◌≡◌, ℕ, ◌+◌, ◌*◌, ◌≤◌, List, [], ◌++◌, length, flat_map, replicate, if◌then◌else◌}
use Rattle.std.specs.List.{list_all}
use Rattle.ft_types.specs.declared.module.Module.{Module}
use Rattle.ft_types.specs.declared.pattern.Pattern.{Pattern}
use Rattle.ft_types.specs.declared.pattern.Cell.{Cell}
use Rattle.ft_types.specs.declared.instrument.Instrument.{Instrument}
use Rattle.ft_types.specs.declared.sample.Sample.{Sample}
use Rattle.ft_types.specs.Valid.{IsValid, IsValidInstrument, IsValidSample}
use Rattle.ft_format.specs.declared.layout.TheConstants.{HEADER, PATTERN_HEAD, SHORT_HEAD, LONG_HEAD, SAMPLE_HEADER, UNUSED}
use Rattle.ft_format.specs.Pattern.{raw_cell_text}
use Rattle.ft_format.specs.Instrument.{head_text, extra_text}
use Rattle.ft_format.specs.Spelling.{Spells}
use Rattle.ft_format.specs.Canon.{canon, header_bytes, is_empty_cell, raw_cells_of, cell_bytes, raw_pattern_of, pattern_bytes, frame_size, sample_header_bytes, sample_data, instrument_head_of, extra_of, instrument_bytes}

-- what bytes spell is valid
abbrev pub SpelledIsValid : Type 0
SpelledIsValid = (bytes : List ℕ) (song : Module) → Spells bytes song → IsValid song

-- the canonical bytes of a valid song spell it
abbrev pub CanonicalIsSpelled : Type 0
CanonicalIsSpelled = (song : Module) → IsValid song → Spells (canon song) song

-- the canonical bytes are those of the parts, one after the other
pub record CanonicalParts : Type 0 where
  pub cells : (cells : List Cell) → flat_map raw_cell_text (raw_cells_of cells)
      ≡ (if list_all is_empty_cell cells then [] else flat_map cell_bytes cells)
  pub without : (instrument : Instrument) → length instrument.samples ≡ 0
      → instrument_bytes instrument ≡ head_text (instrument_head_of instrument)
  pub with : (instrument : Instrument) → 1 ≤ length instrument.samples → instrument_bytes instrument
      ≡ head_text (instrument_head_of instrument) ++ (extra_text (extra_of instrument)
      ++ (replicate UNUSED 0 ++ (flat_map sample_header_bytes instrument.samples
      ++ flat_map sample_data instrument.samples)))
  pub file : (song : Module) → canon song ≡ header_bytes song
      ++ (flat_map pattern_bytes song.patterns ++ flat_map instrument_bytes song.instruments)

-- how many bytes the canonical parts of a valid song have
pub record CanonicalSizes : Type 0 where
  pub header : (song : Module) → IsValid song → length (header_bytes song) ≡ HEADER
  pub pattern : (pattern : Pattern)
      → length (pattern_bytes pattern) ≡ PATTERN_HEAD + (raw_pattern_of pattern).head.packed
  pub sample_header : (sample : Sample) → IsValidSample sample
      → length (sample_header_bytes sample) ≡ SAMPLE_HEADER
  pub steps : (sample : Sample)
      → length (sample_data sample) ≡ frame_size sample * length sample.frames
  pub without : (instrument : Instrument) → IsValidInstrument instrument
      → length instrument.samples ≡ 0 → length (instrument_bytes instrument) ≡ SHORT_HEAD
  pub with : (instrument : Instrument) → IsValidInstrument instrument
      → 1 ≤ length instrument.samples → length (instrument_bytes instrument)
      ≡ LONG_HEAD + length (flat_map sample_header_bytes instrument.samples)
      + length (flat_map sample_data instrument.samples)
  pub file : (song : Module) → IsValid song → length (canon song)
      ≡ HEADER + length (flat_map pattern_bytes song.patterns)
      + length (flat_map instrument_bytes song.instruments)
