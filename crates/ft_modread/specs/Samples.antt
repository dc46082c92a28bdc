-- Samples. A header has 30 bytes: 22 of the name; at 22 the length; at 24 the finetune and at 25 the
-- volume, one byte each; at 26 the loop's start and at 28 its length. The three numbers of two bytes
-- count pairs of bytes.
use Rattle.std.specs.Prelude.{ℕ, ◌-◌, ◌*◌, ◌%◌, ℤ, pos, false, List, [], ◌∷◌, Bool, take, replicate, map, min, nat_lt, not, ◌==◌, ◌&&◌, slice_index, if◌then◌else◌}
use Rattle.std.specs.Int.{w8, cast_signed}
use Rattle.ft_types.specs.declared.sample.Sample.{Sample}
use Rattle.ft_types.specs.declared.instrument.Instrument.{Instrument}
use Rattle.ft_format.specs.declared.layout.TheConstants.{NO_ENVELOPE, NO_VIBRATO}
use Rattle.ft_modread.specs.declared.layout.TheConstants.{SAMPLE_NAME}
use Rattle.ft_modread.specs.Layout.{high_first, filled_up}

-- the bytes of the sample's data, each of which is a frame
abbrev pub data_bytes : List ℕ → ℕ
data_bytes header = 2 * high_first header 22

-- the low four bits are a signed number, of eighths of a semitone
abbrev pub finetune_from : List ℕ → ℤ
finetune_from header = cast_signed w8 (16 * (slice_index header 24 % 16))

-- the loop, brought into the frames
abbrev pub loop_from : List ℕ → ℕ
loop_from header = min (data_bytes header) (2 * high_first header 26)

abbrev pub loop_size : List ℕ → ℕ
loop_size header = min (data_bytes header - loop_from header) (2 * high_first header 28)

-- a loop has more than one pair of bytes, and a frame of the sample
abbrev pub is_looping : List ℕ → Bool
is_looping header = nat_lt 1 (high_first header 28) && not (loop_size header == 0)

unfoldable pub sample_made : List ℕ → List ℕ → Sample
sample_made header bytes = record {
  name = take SAMPLE_NAME header;
  volume = min 64 (slice_index header 25);
  finetune = finetune_from header;
  relative = pos 0;
  panning = 128;
  wide = false;
  loop_kind = if is_looping header then 1 else 0;
  loop_start = if is_looping header then loop_from header else 0;
  loop_len = if is_looping header then loop_size header else 0;
  frames = map (cast_signed w8) (filled_up (data_bytes header) bytes);
}

-- a sample without length is an instrument without samples
abbrev pub samples_made : List ℕ → List ℕ → List Sample
samples_made header bytes = if data_bytes header == 0 then [] else sample_made header bytes ∷ []

unfoldable pub instrument_made : List ℕ → List ℕ → Instrument
instrument_made header bytes = record {
  name = take SAMPLE_NAME header;
  map = replicate 96 0;
  volume = NO_ENVELOPE;
  panning = NO_ENVELOPE;
  vibrato = NO_VIBRATO;
  fadeout = 0;
  samples = samples_made header bytes;
}
