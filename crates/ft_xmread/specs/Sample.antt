-- Samples: their headers.
use Rattle.std.specs.Prelude.{ℕ, nat_lt}
use Rattle.ft_format.specs.declared.sample.SampleHeader.{SampleHeader}
use Rattle.ft_format.specs.declared.layout.TheConstants.{SAMPLE_HEADER}
use Rattle.ft_format.specs.declared.limits.TheConstants.{MOST_FRAMES}
use Rattle.ft_format.specs.Sample.{is_stereo, frame_count}
use Rattle.ft_xmread.specs.declared.fault.XmFault.TheVariants.{Stereo, TooLong}
use Rattle.ft_xmread.specs.Reader.{FileReading, field_at, number_at, checked, seen, in_piece, give}
use Rattle.ft_xmread.specs.Parts.{◌>>=◌}

-- length, loop start and loop length in bytes
unfoldable pub sample_fields_at : FileReading SampleHeader
sample_fields_at = do
  length ← number_at 4
  loop_start ← number_at 4
  loop_len ← number_at 4
  volume ← number_at 1
  finetune ← number_at 1
  kind ← number_at 1
  panning ← number_at 1
  relative ← number_at 1
  skipped ← number_at 1
  name ← field_at 22
  give (record {
    length = length;
    loop_start = loop_start;
    loop_len = loop_len;
    volume = volume;
    finetune = finetune;
    kind = kind;
    panning = panning;
    relative = relative;
    skipped = skipped;
    name = name;
  })

-- a whole header is one field
abbrev pub whole_header_at : FileReading SampleHeader
whole_header_at = seen (λ header. header.0) (in_piece SAMPLE_HEADER sample_fields_at)

abbrev pub mono_header_at : ℕ → ℕ → FileReading SampleHeader
mono_header_at instrument number =
    checked is_stereo (λ _ _. Stereo instrument number) whole_header_at

-- faults count instruments from 1 and samples from 0
unfoldable pub sample_header_at : ℕ → ℕ → FileReading SampleHeader
sample_header_at instrument number =
    checked (λ header. nat_lt MOST_FRAMES (frame_count header))
    (λ _ header. TooLong instrument number (frame_count header))
    (mono_header_at instrument number)
