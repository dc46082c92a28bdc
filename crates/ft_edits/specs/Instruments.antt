-- What edits make of instruments.
use Rattle.std.specs.Prelude.{ℕ, ◌-◌, ◌==◌, List, [], set, replicate, if◌then◌else◌}
use Rattle.ft_types.specs.declared.module.Module.{Module}
use Rattle.ft_types.specs.declared.instrument.Instrument.{Instrument}
use Rattle.ft_types.specs.declared.instrument.Envelope.{Envelope}
use Rattle.ft_types.specs.declared.instrument.Point.{Point}
use Rattle.ft_types.specs.declared.instrument.Vibrato.{Vibrato}
use Rattle.ft_edits.specs.Lists.{changed_at}

-- the instrument of a number changed; they count from 1
abbrev pub with_instrument : ℕ → (Instrument → Instrument) → Module → Module
with_instrument i change song =
    record song { instruments = changed_at (i - 1) change song.instruments }

-- ---- an instrument that says nothing but its name

abbrev pub zero_point : Point
zero_point = record { x = 0; y = 0 }

abbrev pub zero_envelope : Envelope
zero_envelope =
    record {
      points = replicate 12 zero_point;
      count = 0;
      sustain = 0;
      loop_start = 0;
      loop_end = 0;
      flags = 0;
    }

abbrev pub zero_vibrato : Vibrato
zero_vibrato = record { kind = 0; sweep = 0; depth = 0; rate = 0 }

abbrev pub named_only : List ℕ → Instrument
named_only name = record {
  name = name;
  map = replicate 96 0;
  volume = zero_envelope;
  panning = zero_envelope;
  vibrato = zero_vibrato;
  fadeout = 0;
  samples = [];
}

-- all 0, without samples
abbrev pub zero_instrument : Instrument
zero_instrument = named_only (replicate 22 0)

-- ---- its parts

-- note n of the map plays sample k
abbrev pub with_map : ℕ → ℕ → Instrument → Instrument
with_map n k instrument = record instrument { map = set instrument.map n k }

-- which is 0 for the volume envelope, and 1 for that of the panning
abbrev pub with_envelope : ℕ → (Envelope → Envelope) → Instrument → Instrument
with_envelope which change instrument =
    if which == 0 then record instrument { volume = change instrument.volume }
    else record instrument { panning = change instrument.panning }

abbrev pub with_head : ℕ → ℕ → ℕ → ℕ → ℕ → Envelope → Envelope
with_head count sus ls le flags envelope =
    record envelope { count = count; sustain = sus; loop_start = ls; loop_end = le; flags = flags }

abbrev pub with_point : ℕ → Point → Envelope → Envelope
with_point k point envelope = record envelope { points = set envelope.points k point }
