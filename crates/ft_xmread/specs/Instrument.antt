-- Instruments: head, note map, envelopes and automatic vibrato, and the samples.
use Rattle.std.specs.Prelude.{ℕ, ◌-◌, Bool, List, [], ◌∷◌, nat_lt, not, ◌==◌, ◌&&◌, if◌then◌else◌}
use Rattle.ft_types.specs.declared.instrument.Instrument.{Instrument}
use Rattle.ft_types.specs.declared.instrument.Envelope.{Envelope}
use Rattle.ft_types.specs.declared.instrument.Point.{Point}
use Rattle.ft_types.specs.declared.instrument.Vibrato.{Vibrato}
use Rattle.ft_types.specs.declared.sample.Sample.{Sample}
use Rattle.ft_format.specs.declared.instrument.InstrumentHead.{InstrumentHead}
use Rattle.ft_format.specs.declared.instrument.Pair.{Pair}
use Rattle.ft_format.specs.declared.instrument.Turns.{Turns}
use Rattle.ft_format.specs.declared.instrument.Shapes.{Shapes}
use Rattle.ft_format.specs.declared.instrument.Envelopes.{Envelopes}
use Rattle.ft_format.specs.declared.instrument.Extra.{Extra}
use Rattle.ft_format.specs.declared.sample.SampleHeader.{SampleHeader}
use Rattle.ft_format.specs.declared.layout.TheConstants.{SHORT_HEAD, LEAST_LONG_HEAD, NO_EXTRA}
use Rattle.ft_format.specs.declared.limits.TheConstants.{MOST_SAMPLES}
use Rattle.ft_format.specs.Sample.{sample_from}
use Rattle.ft_format.specs.Instrument.{instrument_with}
use Rattle.ft_xmread.specs.declared.fault.XmFault.TheVariants.{Count}
use Rattle.ft_xmread.specs.Reader.{FileReading, field_at, number_at, count_at, checked, times, in_piece, give}
use Rattle.ft_xmread.specs.Parts.{◌>>=◌}
use Rattle.ft_xmread.specs.Sample.{sample_header_at}

-- ---- the head

unfoldable pub head_at : FileReading InstrumentHead
head_at = do
  size ← checked (λ size. nat_lt size SHORT_HEAD) Count (number_at 4)
  name ← field_at 22
  kind ← number_at 1
  samples ← count_at MOST_SAMPLES
  give (record { size = size; name = name; kind = kind; samples = samples })

-- the head of an instrument with samples is longer
abbrev pub is_cut : InstrumentHead → Bool
is_cut head = not (head.samples == 0) && nat_lt head.size LEAST_LONG_HEAD

unfoldable pub sized_head_at : FileReading InstrumentHead
sized_head_at = checked is_cut (λ at head. Count at head.size) head_at

-- ---- what is in the head of an instrument with samples

unfoldable pub point_spelled_at : FileReading Point
point_spelled_at = do
  x ← number_at 2
  y ← number_at 2
  give (record { x = x; y = y })

abbrev pub points_at : FileReading (List Point)
points_at = times (λ _. point_spelled_at) 0 12

unfoldable pub pair_at : FileReading Pair
pair_at = do
  volume ← number_at 1
  panning ← number_at 1
  give (record { volume = volume; panning = panning })

unfoldable pub turns_at : FileReading Turns
turns_at = do
  sustain ← number_at 1
  loop_start ← number_at 1
  loop_end ← number_at 1
  give (record { sustain = sustain; loop_start = loop_start; loop_end = loop_end })

unfoldable pub vibrato_at : FileReading Vibrato
vibrato_at = do
  kind ← number_at 1
  sweep ← number_at 1
  depth ← number_at 1
  rate ← number_at 1
  give (record { kind = kind; sweep = sweep; depth = depth; rate = rate })

unfoldable pub shapes_at : FileReading Shapes
shapes_at = do
  counts ← pair_at
  volume ← turns_at
  panning ← turns_at
  flags ← pair_at
  give (record { counts = counts; volume = volume; panning = panning; flags = flags })

-- an envelope of these points
abbrev pub shaped : List Point → ℕ → Turns → ℕ → Envelope
shaped points count turns flags = record {
  points = points;
  count = count;
  sustain = turns.sustain;
  loop_start = turns.loop_start;
  loop_end = turns.loop_end;
  flags = flags;
}

-- the points of both, and then the rest of both
unfoldable pub envelopes_at : FileReading Envelopes
envelopes_at = do
  volume ← points_at
  panning ← points_at
  shapes ← shapes_at
  give (record {
    volume = shaped volume shapes.counts.volume shapes.volume shapes.flags.volume;
    panning = shaped panning shapes.counts.panning shapes.panning shapes.flags.panning;
  })

unfoldable pub extra_at : FileReading Extra
extra_at = do
  header_size ← number_at 4
  map ← field_at 96
  envelopes ← envelopes_at
  vibrato ← vibrato_at
  fadeout ← number_at 2
  give (record {
    header_size = header_size;
    map = map;
    envelopes = envelopes;
    vibrato = vibrato;
    fadeout = fadeout;
  })

-- ---- the samples

-- the data of each sample, as long as its header says
unfoldable pub samples_spelled_at : List SampleHeader → FileReading (List Sample)
samples_spelled_at [] = give []
samples_spelled_at (header ∷ headers) = do
  steps ← field_at header.length
  others ← samples_spelled_at headers
  give (sample_from header steps ∷ others)

-- all sample headers, and then all data
unfoldable pub headers_and_samples_at : ℕ → ℕ → FileReading (List Sample)
headers_and_samples_at number count = do
  headers ← times (sample_header_at number) 0 count
  samples_spelled_at headers

-- ---- the instrument

-- an instrument without samples skips the rest of its head
abbrev pub short_rest_at : InstrumentHead → FileReading Instrument
short_rest_at head = do
  _ ← field_at (head.size - SHORT_HEAD)
  give (instrument_with head NO_EXTRA [])

-- with samples the rest is one field
abbrev pub long_rest_at : ℕ → InstrumentHead → FileReading Instrument
long_rest_at number head = do
  extra ← in_piece (head.size - SHORT_HEAD) extra_at
  samples ← headers_and_samples_at number head.samples
  give (instrument_with head extra.0 samples)

abbrev pub rest_at : ℕ → InstrumentHead → FileReading Instrument
rest_at number head p =
    if head.samples == 0 then short_rest_at head p else long_rest_at number head p

unfoldable pub instrument_spelled_at : ℕ → FileReading Instrument
instrument_spelled_at number = do
  head ← sized_head_at
  rest_at number head
