-- Instruments: what a file says, its bytes, and what it means.
use Rattle.std.specs.Prelude.{◌≡◌, ℕ, ◌≤◌, ◌-◌, ◌%◌, Bool, true, false, List, [], ◌++◌, map, flat_map, min, nat_le, ◌==◌, if◌then◌else◌}
use Rattle.ft_types.specs.declared.instrument.Instrument.{Instrument}
use Rattle.ft_types.specs.declared.instrument.Envelope.{Envelope}
use Rattle.ft_types.specs.declared.instrument.Point.{Point}
use Rattle.ft_types.specs.declared.instrument.Vibrato.{Vibrato}
use Rattle.ft_types.specs.declared.sample.Sample.{Sample}
use Rattle.ft_format.specs.declared.instrument.InstrumentHead.{InstrumentHead}
use Rattle.ft_format.specs.declared.instrument.Turns.{Turns}
use Rattle.ft_format.specs.declared.instrument.Extra.{Extra}
use Rattle.ft_format.specs.declared.instrument.Pair.{Pair}
use Rattle.ft_format.specs.declared.instrument.Shapes.{Shapes}
use Rattle.ft_format.specs.declared.instrument.Envelopes.{Envelopes}
use Rattle.ft_format.specs.declared.layout.TheConstants.{SHORT_HEAD, LEAST_LONG_HEAD, NO_EXTRA}
use Rattle.ft_format.specs.declared.limits.TheConstants.{MOST_SAMPLES}
use Rattle.ft_format.specs.Fields.{byte, two_bytes, four_bytes, IsNumber, IsField, AllFit, FitsWithin}
use Rattle.ft_format.specs.Sample.{RawSample, RawSampleFits, sample_header_text, sample_from}

-- ---- the head, of 29 bytes

abbrev pub head_text : InstrumentHead → List ℕ
head_text head = four_bytes head.size ++ (head.name ++ (byte head.kind ++ two_bytes head.samples))

-- a head with samples is longer
pub record HeadFits (head : InstrumentHead) : Type 0 where
  pub size : IsNumber 4 head.size
  pub whole : SHORT_HEAD ≤ head.size
  pub long : 1 ≤ head.samples → LEAST_LONG_HEAD ≤ head.size
  pub name : IsField 22 head.name
  pub kind : IsNumber 1 head.kind
  pub samples : head.samples ≤ MOST_SAMPLES

-- ---- what is in the head of an instrument with samples, 212 bytes

abbrev pub point_text : Point → List ℕ
point_text point = two_bytes point.x ++ two_bytes point.y

abbrev pub pair_text : Pair → List ℕ
pair_text pair = byte pair.volume ++ byte pair.panning

abbrev pub turns_text : Turns → List ℕ
turns_text turns = byte turns.sustain ++ (byte turns.loop_start ++ byte turns.loop_end)

abbrev pub vibrato_text : Vibrato → List ℕ
vibrato_text vibrato =
    byte vibrato.kind ++ (byte vibrato.sweep ++ (byte vibrato.depth ++ byte vibrato.rate))

abbrev pub turns_of : Envelope → Turns
turns_of envelope = record {
  sustain = envelope.sustain;
  loop_start = envelope.loop_start;
  loop_end = envelope.loop_end;
}

abbrev pub shapes_of : Envelopes → Shapes
shapes_of envelopes = record {
  counts = record { volume = envelopes.volume.count; panning = envelopes.panning.count };
  volume = turns_of envelopes.volume;
  panning = turns_of envelopes.panning;
  flags = record { volume = envelopes.volume.flags; panning = envelopes.panning.flags };
}

-- how many points count, the turns, the flags
abbrev pub shapes_text : Shapes → List ℕ
shapes_text shapes = pair_text shapes.counts
    ++ (turns_text shapes.volume ++ (turns_text shapes.panning ++ pair_text shapes.flags))

-- the points of both, and then the rest of both
abbrev pub envelopes_text : Envelopes → List ℕ
envelopes_text envelopes = flat_map point_text envelopes.volume.points
    ++ (flat_map point_text envelopes.panning.points ++ shapes_text (shapes_of envelopes))

-- sample header size, note map, envelopes, automatic vibrato, fadeout
unfoldable pub extra_text : Extra → List ℕ
extra_text extra = four_bytes extra.header_size ++ (extra.map ++ (envelopes_text extra.envelopes
    ++ (vibrato_text extra.vibrato ++ two_bytes extra.fadeout)))

pub record PointFits (point : Point) : Type 0 where
  pub x : IsNumber 2 point.x
  pub y : IsNumber 2 point.y

pub record PairFits (pair : Pair) : Type 0 where
  pub volume : IsNumber 1 pair.volume
  pub panning : IsNumber 1 pair.panning

pub record TurnsFit (turns : Turns) : Type 0 where
  pub sustain : IsNumber 1 turns.sustain
  pub loop_start : IsNumber 1 turns.loop_start
  pub loop_end : IsNumber 1 turns.loop_end

pub record VibratoFits (vibrato : Vibrato) : Type 0 where
  pub kind : IsNumber 1 vibrato.kind
  pub sweep : IsNumber 1 vibrato.sweep
  pub depth : IsNumber 1 vibrato.depth
  pub rate : IsNumber 1 vibrato.rate

pub record ShapesFit (shapes : Shapes) : Type 0 where
  pub counts : PairFits shapes.counts
  pub volume : TurnsFit shapes.volume
  pub panning : TurnsFit shapes.panning
  pub flags : PairFits shapes.flags

pub record EnvelopesFit (envelopes : Envelopes) : Type 0 where
  pub volume : AllFit 12 PointFits envelopes.volume.points
  pub panning : AllFit 12 PointFits envelopes.panning.points
  pub shapes : ShapesFit (shapes_of envelopes)

pub record ExtraFits (extra : Extra) : Type 0 where
  pub header_size : IsNumber 4 extra.header_size
  pub map : IsField 96 extra.map
  pub envelopes : EnvelopesFit extra.envelopes
  pub vibrato : VibratoFits extra.vibrato
  pub fadeout : IsNumber 2 extra.fadeout

-- ---- the whole

-- what follows the first bytes of a head: for an instrument with samples the extra fields; skipped
-- bytes; all sample headers, and then the data of each sample
pub record RawRest : Type 0 where
  pub extra : Extra
  pub skipped : List ℕ
  pub samples : List RawSample

pub record RawInstrument : Type 0 where
  pub head : InstrumentHead
  pub rest : RawRest

abbrev pub rest_text : Bool → RawRest → List ℕ
rest_text true rest = rest.skipped
rest_text false rest = (extra_text rest.extra ++ rest.skipped)
    ++ (flat_map (λ sample. sample_header_text sample.header) rest.samples
    ++ flat_map (λ sample. sample.steps) rest.samples)

unfoldable pub instrument_text : RawInstrument → List ℕ
instrument_text raw = head_text raw.head ++ rest_text (raw.head.samples == 0) raw.rest

pub record LongFits (size count : ℕ) (rest : RawRest) : Type 0 where
  pub extra : FitsWithin (size - SHORT_HEAD) extra_text ExtraFits (rest.extra, rest.skipped)
  pub samples : AllFit count RawSampleFits rest.samples

pub record ShortFits (size : ℕ) (rest : RawRest) : Type 0 where
  pub extra : rest.extra ≡ NO_EXTRA
  pub skipped : IsField (size - SHORT_HEAD) rest.skipped
  pub samples : rest.samples ≡ []

abbrev pub RestFits : Bool → InstrumentHead → RawRest → Type 0
RestFits true head rest = ShortFits head.size rest
RestFits false head rest = LongFits head.size head.samples rest

pub record RawInstrumentFits (raw : RawInstrument) : Type 0 where
  pub head : HeadFits raw.head
  pub rest : RestFits (raw.head.samples == 0) raw.head raw.rest

-- ---- what it means

abbrev pub point_of : Point → Point
point_of point = record { x = point.x; y = min 64 point.y }

-- only the three low bits of the flags count
unfoldable pub envelope_of : Envelope → Envelope
envelope_of envelope = record {
  points = map point_of envelope.points;
  count = min 12 envelope.count;
  sustain = min 11 envelope.sustain;
  loop_start = min 11 envelope.loop_start;
  loop_end = min 11 envelope.loop_end;
  flags = envelope.flags % 8;
}

-- an unknown kind is a sine
unfoldable pub vibrato_of : Vibrato → Vibrato
vibrato_of vibrato = record {
  kind = if nat_le vibrato.kind 3 then vibrato.kind else 0;
  sweep = vibrato.sweep;
  depth = min 15 vibrato.depth;
  rate = min 63 vibrato.rate;
}

unfoldable pub instrument_with : InstrumentHead → Extra → List Sample → Instrument
instrument_with head extra samples = record {
  name = head.name;
  map = map (min 15) extra.map;
  volume = envelope_of extra.envelopes.volume;
  panning = envelope_of extra.envelopes.panning;
  vibrato = vibrato_of extra.vibrato;
  fadeout = extra.fadeout;
  samples = samples;
}

abbrev pub instrument_of : RawInstrument → Instrument
instrument_of raw = instrument_with raw.head raw.rest.extra
    (map (λ sample. sample_from sample.header sample.steps) raw.rest.samples)
