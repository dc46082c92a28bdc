-- Samples: what a file says, its bytes, and what it means.
use Rattle.std.specs.Prelude.{◌≡◌, ℕ, ◌+◌, ◌-◌, ◌*◌, ◌/◌, ◌%◌, ◌≤◌, ℤ, Bool, false, List, [], ◌∷◌, ◌++◌, map, min, ◌==◌, ◌||◌, if◌then◌else◌}
use Rattle.std.specs.Int.{w8, w16, cast_signed}
use Rattle.ft_types.specs.declared.sample.Sample.{Sample}
use Rattle.ft_format.specs.declared.sample.SampleHeader.{SampleHeader}
use Rattle.ft_format.specs.declared.limits.TheConstants.{MOST_FRAMES}
use Rattle.ft_format.specs.Fields.{byte, four_bytes, IsNumber, IsField}

-- ---- the header

-- length, loop start and loop length in bytes
abbrev pub lengths_text : SampleHeader → List ℕ
lengths_text header =
    four_bytes header.length ++ (four_bytes header.loop_start ++ four_bytes header.loop_len)

-- volume, finetune, type, panning, relative note, a byte that is skipped
abbrev pub numbers_text : SampleHeader → List ℕ
numbers_text header = byte header.volume ++ (byte header.finetune ++ (byte header.kind
    ++ (byte header.panning ++ (byte header.relative ++ byte header.skipped))))

unfoldable pub sample_header_text : SampleHeader → List ℕ
sample_header_text header = lengths_text header ++ (numbers_text header ++ header.name)

-- bit 5 of the type says two channels, bit 4 frames of 16 bits
abbrev pub is_stereo : SampleHeader → Bool
is_stereo header = header.kind / 32 % 2 == 1

abbrev pub is_wide : SampleHeader → Bool
is_wide header = header.kind / 16 % 2 == 1

-- a number of bytes as one of frames; a frame that is cut doesn't count
abbrev pub in_frames : SampleHeader → ℕ → ℕ
in_frames header bytes = if is_wide header then bytes / 2 else bytes

abbrev pub frame_count : SampleHeader → ℕ
frame_count header = in_frames header header.length

pub record SampleHeaderFits (header : SampleHeader) : Type 0 where
  pub length : IsNumber 4 header.length
  pub loop_start : IsNumber 4 header.loop_start
  pub loop_len : IsNumber 4 header.loop_len
  pub volume : IsNumber 1 header.volume
  pub finetune : IsNumber 1 header.finetune
  pub kind : IsNumber 1 header.kind
  pub panning : IsNumber 1 header.panning
  pub relative : IsNumber 1 header.relative
  pub skipped : IsNumber 1 header.skipped
  pub name : IsField 22 header.name
  pub mono : is_stereo header ≡ false
  pub few_frames : frame_count header ≤ MOST_FRAMES

-- ---- the loop

-- 3 is read as ping-pong
abbrev pub loop_kind_of : SampleHeader → ℕ
loop_kind_of header = min 2 (header.kind % 4)

-- the loop's numbers, brought into the sample
abbrev pub loop_start_of : SampleHeader → ℕ
loop_start_of header = min (frame_count header) (in_frames header header.loop_start)

abbrev pub loop_len_of : SampleHeader → ℕ
loop_len_of header =
    min (frame_count header - loop_start_of header) (in_frames header header.loop_len)

-- no loop by its kind, or none that has a frame
abbrev pub is_unlooped : SampleHeader → Bool
is_unlooped header = (loop_kind_of header == 0) || (loop_len_of header == 0)

-- ---- the frames

-- each number is the step from the one before it, which wraps at `span`
abbrev pub sums_from : ℕ → ℕ → List ℕ → List ℕ
sums_from span before [] = []
sums_from span before (step ∷ steps) =
    (before + step) % span ∷ sums_from span ((before + step) % span) steps

-- numbers of two bytes, the low one first; an odd last byte is skipped
abbrev pub pairs_of : List ℕ → List ℕ
pairs_of [] = []
pairs_of (low ∷ []) = []
pairs_of (low ∷ (high ∷ bytes)) = (low + 256 * high) ∷ pairs_of bytes

-- the frames of data, in two's complement; the first step is from 0
unfoldable pub narrow_frames : List ℕ → List ℤ
narrow_frames steps = map (cast_signed w8) (sums_from 256 0 steps)

unfoldable pub wide_frames : List ℕ → List ℤ
wide_frames steps = map (cast_signed w16) (sums_from 65536 0 (pairs_of steps))

-- ---- a header and its data

pub record RawSample : Type 0 where
  pub header : SampleHeader
  pub steps : List ℕ

pub record RawSampleFits (raw : RawSample) : Type 0 where
  pub header : SampleHeaderFits raw.header
  pub steps : IsField raw.header.length raw.steps

-- ---- what it means

unfoldable pub sample_from : SampleHeader → List ℕ → Sample
sample_from header steps = record {
  name = header.name;
  volume = min 64 header.volume;
  finetune = cast_signed w8 header.finetune;
  relative = cast_signed w8 header.relative;
  panning = header.panning;
  wide = is_wide header;
  loop_kind = if is_unlooped header then 0 else loop_kind_of header;
  loop_start = if is_unlooped header then 0 else loop_start_of header;
  loop_len = if is_unlooped header then 0 else loop_len_of header;
  frames = if is_wide header then wide_frames steps else narrow_frames steps;
}
