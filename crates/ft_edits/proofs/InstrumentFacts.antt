-- Edits of instruments keep them valid.
use Rattle.std.proofs.Common.{◌≡◌, ℕ, ◌<◌, ◌≤◌, Bool, true, false, cond, List, length, replicate, refl, ◌∙◌, arith}
use Rattle.std.specs.Prelude.{◌==◌}
use Rattle.std.proofs.lemmas.List.{length-replicate, length-set}
use Rattle.std.proofs.lemmas.List.Elements.{All-nil, All-replicate, All-set}
use Rattle.ft_types.specs.declared.instrument.Instrument.{Instrument}
use Rattle.ft_types.specs.declared.instrument.Envelope.{Envelope}
use Rattle.ft_types.specs.declared.instrument.Point.{Point}
use Rattle.ft_types.specs.declared.instrument.Vibrato.{Vibrato}
use Rattle.ft_types.specs.Valid.{IsBytes, IsValidInstrument, IsValidEnvelope, IsValidPoint, IsValidVibrato, IsValidSample, IsZeroInstrument, IsZeroEnvelope, IsZeroPoint}
use Rattle.ft_edits.specs.Instruments.{zero_point, zero_envelope, named_only, zero_instrument, with_map, with_envelope, with_head, with_point}

-- ---- an instrument that says nothing but its name

zero_envelope_valid : IsValidEnvelope zero_envelope
zero_envelope_valid = record {
  twelve = length-replicate {A = Point} 12 zero_point;
  points = All-replicate IsValidPoint 12 zero_point (record { x = omega arith; y = omega arith });
  count = omega arith;
  sustain = omega arith;
  loop_start = omega arith;
  loop_end = omega arith;
  flags = omega arith;
}

zero_envelope_zero : IsZeroEnvelope zero_envelope
zero_envelope_zero = record {
  points = All-replicate IsZeroPoint 12 zero_point (refl, refl);
  count = refl;
  sustain = refl;
  loop_start = refl;
  loop_end = refl;
  flags = refl;
}

pub named_valid : (name : List ℕ) → IsBytes 22 name → IsValidInstrument (named_only name)
named_valid name bytes = record {
  name = bytes;
  map_len = length-replicate {A = ℕ} 96 0;
  map = All-replicate (λ sample. sample ≤ 15) 96 0 (omega arith);
  volume = zero_envelope_valid;
  panning = zero_envelope_valid;
  vibrato = record { kind = omega arith; sweep = omega arith; depth = omega arith; rate = omega arith };
  fadeout = omega arith;
  few_samples = omega arith;
  samples = All-nil IsValidSample;
  without = λ none. record {
    map = All-replicate (λ sample. sample ≡ 0) 96 0 refl;
    volume = zero_envelope_zero;
    panning = zero_envelope_zero;
    kind = refl;
    sweep = refl;
    depth = refl;
    rate = refl;
    fadeout = refl;
  };
}

pub zero_valid : IsValidInstrument zero_instrument
zero_valid = named_valid (replicate 22 0)
    (record { len = length-replicate {A = ℕ} 22 0; each = All-replicate (λ byte. byte < 256) 22 0 (omega arith) })

-- ---- parts of an instrument

-- an instrument that has a sample says what it likes
sounds : (instrument : Instrument) → 0 < length instrument.samples → length instrument.samples ≡ 0 → (T : Type 0) → T
sounds instrument some none T = absurd (omega (arith, some, none))

pub name_kept : (name : List ℕ) (instrument : Instrument) → IsBytes 22 name → IsValidInstrument instrument
    → IsValidInstrument (record instrument { name = name })
name_kept name instrument bytes v = record {
  name = bytes;
  map_len = v.map_len;
  map = v.map;
  volume = v.volume;
  panning = v.panning;
  vibrato = v.vibrato;
  fadeout = v.fadeout;
  few_samples = v.few_samples;
  samples = v.samples;
  without = λ none. let z = v.without none in record {
    map = z.map;
    volume = z.volume;
    panning = z.panning;
    kind = z.kind;
    sweep = z.sweep;
    depth = z.depth;
    rate = z.rate;
    fadeout = z.fadeout;
  };
}

pub map_kept : (n k : ℕ) (instrument : Instrument) → k ≤ 15 → 0 < length instrument.samples
    → IsValidInstrument instrument
    → IsValidInstrument (with_map n k instrument)
map_kept n k instrument low some v = record {
  name = v.name;
  map_len = length-set instrument.map n k ∙ v.map_len;
  map = All-set (λ sample. sample ≤ 15) instrument.map n k low v.map;
  volume = v.volume;
  panning = v.panning;
  vibrato = v.vibrato;
  fadeout = v.fadeout;
  few_samples = v.few_samples;
  samples = v.samples;
  without = λ none. sounds instrument some none (IsZeroInstrument (with_map n k instrument));
}

pub vibrato_kept : (vibrato : Vibrato) (instrument : Instrument) → IsValidVibrato vibrato
    → 0 < length instrument.samples
    → IsValidInstrument instrument → IsValidInstrument (record instrument { vibrato = vibrato })
vibrato_kept vibrato instrument valid some v = record {
  name = v.name;
  map_len = v.map_len;
  map = v.map;
  volume = v.volume;
  panning = v.panning;
  vibrato = valid;
  fadeout = v.fadeout;
  few_samples = v.few_samples;
  samples = v.samples;
  without = λ none. sounds instrument some none (IsZeroInstrument (record instrument { vibrato = vibrato }));
}

pub fadeout_kept : (n : ℕ) (instrument : Instrument) → n < 65536 → 0 < length instrument.samples
    → IsValidInstrument instrument → IsValidInstrument (record instrument { fadeout = n })
fadeout_kept n instrument low some v = record {
  name = v.name;
  map_len = v.map_len;
  map = v.map;
  volume = v.volume;
  panning = v.panning;
  vibrato = v.vibrato;
  fadeout = low;
  few_samples = v.few_samples;
  samples = v.samples;
  without = λ none. sounds instrument some none (IsZeroInstrument (record instrument { fadeout = n }));
}

with_volume : (envelope : Envelope) (instrument : Instrument) → IsValidEnvelope envelope → 0 < length instrument.samples
    → IsValidInstrument instrument → IsValidInstrument (record instrument { volume = envelope })
with_volume envelope instrument valid some v = record {
  name = v.name;
  map_len = v.map_len;
  map = v.map;
  volume = valid;
  panning = v.panning;
  vibrato = v.vibrato;
  fadeout = v.fadeout;
  few_samples = v.few_samples;
  samples = v.samples;
  without = λ none. sounds instrument some none (IsZeroInstrument (record instrument { volume = envelope }));
}

with_panning : (envelope : Envelope) (instrument : Instrument) → IsValidEnvelope envelope
    → 0 < length instrument.samples
    → IsValidInstrument instrument → IsValidInstrument (record instrument { panning = envelope })
with_panning envelope instrument valid some v = record {
  name = v.name;
  map_len = v.map_len;
  map = v.map;
  volume = v.volume;
  panning = valid;
  vibrato = v.vibrato;
  fadeout = v.fadeout;
  few_samples = v.few_samples;
  samples = v.samples;
  without = λ none. sounds instrument some none (IsZeroInstrument (record instrument { panning = envelope }));
}

which_kept : (b : Bool) (volume panning : Instrument) → IsValidInstrument volume → IsValidInstrument panning
    → IsValidInstrument (cond b volume panning)
which_kept true volume panning v p = v
which_kept false volume panning v p = p

pub envelope_kept : (which : ℕ) (change : Envelope → Envelope) (instrument : Instrument)
    → ((envelope : Envelope) → IsValidEnvelope envelope → IsValidEnvelope (change envelope))
    → 0 < length instrument.samples → IsValidInstrument instrument
    → IsValidInstrument (with_envelope which change instrument)
envelope_kept which change instrument keeps some v =
    which_kept (which == 0) (record instrument { volume = change instrument.volume })
    (record instrument { panning = change instrument.panning })
    (with_volume (change instrument.volume) instrument (keeps instrument.volume v.volume) some v)
    (with_panning (change instrument.panning) instrument (keeps instrument.panning v.panning) some v)

pub head_kept : (count sus ls le flags : ℕ) (envelope : Envelope) → count ≤ 12 → sus ≤ 11 → ls ≤ 11 → le ≤ 11
    → flags ≤ 7
    → IsValidEnvelope envelope → IsValidEnvelope (with_head count sus ls le flags envelope)
head_kept count sus ls le flags envelope a b c d e v =
    record { twelve = v.twelve; points = v.points; count = a; sustain = b; loop_start = c; loop_end = d; flags = e }

pub point_kept : (k : ℕ) (point : Point) (envelope : Envelope) → IsValidPoint point → IsValidEnvelope envelope
    → IsValidEnvelope (with_point k point envelope)
point_kept k point envelope valid v = record {
  twelve = length-set envelope.points k point ∙ v.twelve;
  points = All-set IsValidPoint envelope.points k point valid v.points;
  count = v.count;
  sustain = v.sustain;
  loop_start = v.loop_start;
  loop_end = v.loop_end;
  flags = v.flags;
}
