-- An instrument as it is written.
use Rattle.std.proofs.Common.{◌≡◌, ℕ, ◌*◌, ◌%◌, ◌<◌, ◌≤◌, Bool, true, false, cond, List, [], ◌∷◌, ◌++◌, length, map, replicate, All, refl, sym, ap, ◌∙◌, arith}
use Rattle.std.specs.Prelude.{nat_le, ◌==◌, min}
use Rattle.std.specs.List.{flat_map}
use Rattle.std.proofs.lemmas.List.{length-append, length-map}
use Rattle.std.proofs.lemmas.List.Elements.{All-head, All-tail, All-map, All-replicate}
use Rattle.std.proofs.lemmas.Bool.Decides.{nat_tests}
use Rattle.ft_types.specs.declared.instrument.Instrument.{Instrument}
use Rattle.ft_types.specs.declared.instrument.Envelope.{Envelope}
use Rattle.ft_types.specs.declared.instrument.Point.{Point}
use Rattle.ft_types.specs.declared.instrument.Vibrato.{Vibrato}
use Rattle.ft_types.specs.declared.sample.Sample.{Sample}
use Rattle.ft_types.specs.Valid.{IsValidPoint, IsValidEnvelope, IsValidVibrato, IsValidInstrument, IsZeroPoint, IsZeroEnvelope}
use Rattle.ft_format.specs.declared.instrument.InstrumentHead.{InstrumentHead}
use Rattle.ft_format.specs.declared.layout.TheConstants.{NO_ENVELOPE}
use Rattle.ft_format.specs.Fields.{two_bytes}
use Rattle.ft_format.specs.Sample.{RawSampleFits, sample_from}
use Rattle.ft_format.specs.Instrument.{RawInstrumentFits, RestFits, HeadFits, point_text, shapes_of, shapes_text, vibrato_text, PointFits, ExtraFits, extra_text, point_of, envelope_of, vibrato_of, instrument_with, instrument_of}
use Rattle.ft_format.specs.Canon.{raw_sample_of, head_size, extra_of, rest_of, raw_instrument_of}
use Rattle.ft_format.proofs.Numbers.{eq_is, least}
use Rattle.ft_format.proofs.Bytes.{bytes_of, field_of}
use Rattle.ft_format.proofs.Lists.{map_back, map_kept}
use Rattle.ft_format.proofs.Samples.{sample_fits, sample_means}

-- the head, where the test says whether there are no samples
abbrev head_if : Bool → Instrument → InstrumentHead
head_if none i = record { size = head_size none; name = i.name; kind = 0; samples = length i.samples }

-- ---- it fits

points_fit : (points : List Point) → All IsValidPoint points → All PointFits points
points_fit points all = λ k d lt. let v = all k d lt in record { x = omega (arith, v.x); y = omega (arith, v.y) }

extra_fits : (i : Instrument) → IsValidInstrument i → ExtraFits (extra_of i)
extra_fits i v = record {
  header_size = omega arith;
  map = field_of 96 i.map (record { len = v.map_len; each = λ k d lt. omega (arith, v.map k d lt) });
  envelopes = record {
    volume = record { count = v.volume.twelve; each = points_fit i.volume.points v.volume.points };
    panning = record { count = v.panning.twelve; each = points_fit i.panning.points v.panning.points };
    shapes = record {
      counts = record { volume = omega (arith, v.volume.count); panning = omega (arith, v.panning.count) };
      volume = record {
        sustain = omega (arith, v.volume.sustain);
        loop_start = omega (arith, v.volume.loop_start);
        loop_end = omega (arith, v.volume.loop_end);
      };
      panning = record {
        sustain = omega (arith, v.panning.sustain);
        loop_start = omega (arith, v.panning.loop_start);
        loop_end = omega (arith, v.panning.loop_end);
      };
      flags = record { volume = omega (arith, v.volume.flags); panning = omega (arith, v.panning.flags) };
    };
  };
  vibrato = record {
    kind = omega (arith, v.vibrato.kind);
    sweep = omega (arith, v.vibrato.sweep);
    depth = omega (arith, v.vibrato.depth);
    rate = omega (arith, v.vibrato.rate);
  };
  fadeout = omega (arith, v.fadeout);
}

length_points : (points : List Point) → length (flat_map point_text points) ≡ 4 * length points
length_points [] = refl
length_points (point ∷ points) =
    omega (arith, length-append (point_text point) (flat_map point_text points), length_points points)

pub extra_length : (i : Instrument) → IsValidInstrument i → length (extra_text (extra_of i)) ≡ 212
unfolding extra_text
extra_length i w =
    let e = extra_of i in
    let v = flat_map point_text i.volume.points in
    let p = flat_map point_text i.panning.points in
    let s = shapes_text (shapes_of e.envelopes) in
    let tail = vibrato_text e.vibrato ++ two_bytes e.fadeout in
    omega (
      arith,
      length-append i.map ((v ++ (p ++ s)) ++ tail),
      length-append (v ++ (p ++ s)) tail,
      length-append v (p ++ s),
      length-append p s,
      length_points i.volume.points,
      length_points i.panning.points,
      w.map_len,
      w.volume.twelve,
      w.panning.twelve,
    )

whole_length : (i : Instrument) → IsValidInstrument i → length (extra_text (extra_of i) ++ replicate 22 0) ≡ 234
whole_length i v = omega (arith, extra_length i v, length-append (extra_text (extra_of i)) (replicate 22 0))

zeros_small : (n : ℕ) → All (λ byte. byte < 256) (replicate n 0)
zeros_small n = All-replicate (λ byte. byte < 256) n 0 (omega arith)

some_not_none : (n : ℕ) → (n == 0) ≡ true → 1 ≤ n → ⊥
some_not_none n e some = grind (arith, nat_tests)

head_fits : (none : Bool) (i : Instrument) → (length i.samples == 0) ≡ none → IsValidInstrument i
    → HeadFits (head_if none i)
head_fits true i e v = record {
  size = omega arith;
  whole = omega arith;
  long = λ some. absurd (some_not_none (length i.samples) e some);
  name = field_of 22 i.name v.name;
  kind = omega arith;
  samples = v.few_samples;
}
head_fits false i e v = record {
  size = omega arith;
  whole = omega arith;
  long = λ some. omega arith;
  name = field_of 22 i.name v.name;
  kind = omega arith;
  samples = v.few_samples;
}

rest_fits : (none : Bool) (i : Instrument) → IsValidInstrument i → RestFits none (head_if none i) (rest_of none i)
rest_fits true i v = record { extra = refl; skipped = (refl, λ k. omega arith); samples = refl }
rest_fits false i v = record {
  extra = record { fits = extra_fits i v; whole = whole_length i v; bytes = bytes_of (replicate 22 0) (zeros_small 22) };
  samples = record {
    count = length-map i.samples raw_sample_of;
    each = All-map RawSampleFits raw_sample_of i.samples (λ k d lt. sample_fits _ (v.samples k d lt));
  };
}

pub instrument_fits : (i : Instrument) → IsValidInstrument i → RawInstrumentFits (raw_instrument_of i)
instrument_fits i v =
    record { head = head_fits (length i.samples == 0) i refl v; rest = rest_fits (length i.samples == 0) i v }

-- ---- what it means

abbrev make_point : ℕ → ℕ → Point
make_point x y = record { x = x; y = y }

abbrev make_envelope : List Point → ℕ → ℕ → ℕ → ℕ → ℕ → Envelope
make_envelope points count sustain loop_start loop_end flags =
    record {
      points = points;
      count = count;
      sustain = sustain;
      loop_start = loop_start;
      loop_end = loop_end;
      flags = flags;
    }

same_envelope : (p q : List Point) (a b c d f a2 b2 c2 d2 f2 : ℕ) → p ≡ q → a ≡ a2 → b ≡ b2 → c ≡ c2 → d ≡ d2 → f ≡ f2
    → make_envelope p a b c d f ≡ make_envelope q a2 b2 c2 d2 f2
same_envelope p q a b c d f a2 b2 c2 d2 f2 ep ea eb ec ed ef = rw (ep, ea, eb, ec, ed, ef) refl

point_kept : (point : Point) → IsValidPoint point → point_of point ≡ point
point_kept point v = ap (λ (y : ℕ). make_point point.x y) (least 64 point.y v.y)

low_flags : (n : ℕ) → n ≤ 7 → n % 8 ≡ n
low_flags n le = omega (arith, le)

envelope_kept : (e : Envelope) → IsValidEnvelope e → envelope_of e ≡ e
unfolding envelope_of
envelope_kept e v =
    same_envelope (map point_of e.points) e.points (min 12 e.count) (min 11 e.sustain) (min 11 e.loop_start)
    (min 11 e.loop_end) (e.flags % 8) e.count e.sustain e.loop_start e.loop_end e.flags
    (map_kept point_of e.points (λ k d lt. point_kept _ (v.points k d lt))) (least 12 e.count v.count)
    (least 11 e.sustain v.sustain) (least 11 e.loop_start v.loop_start) (least 11 e.loop_end v.loop_end)
    (low_flags e.flags v.flags)

abbrev make_vibrato : ℕ → ℕ → ℕ → ℕ → Vibrato
make_vibrato kind sweep depth rate = record { kind = kind; sweep = sweep; depth = depth; rate = rate }

same_vibrato : (a b c d a2 b2 c2 d2 : ℕ) → a ≡ a2 → b ≡ b2 → c ≡ c2 → d ≡ d2
    → make_vibrato a b c d ≡ make_vibrato a2 b2 c2 d2
same_vibrato a b c d a2 b2 c2 d2 ea eb ec ed = rw (ea, eb, ec, ed) refl

known_kind : (n : ℕ) → n ≤ 3 → cond (nat_le n 3) n 0 ≡ n
known_kind n le = grind (arith, nat_tests)

vibrato_kept : (v : Vibrato) → IsValidVibrato v → vibrato_of v ≡ v
unfolding vibrato_of
vibrato_kept v w =
    same_vibrato (cond (nat_le v.kind 3) v.kind 0) v.sweep (min 15 v.depth) (min 63 v.rate) v.kind v.sweep v.depth
    v.rate (known_kind v.kind w.kind) refl (least 15 v.depth w.depth) (least 63 v.rate w.rate)

abbrev make_instrument : List ℕ → List ℕ → Envelope → Envelope → Vibrato → ℕ → List Sample → Instrument
make_instrument name map volume panning vibrato fadeout samples =
    record {
      name = name;
      map = map;
      volume = volume;
      panning = panning;
      vibrato = vibrato;
      fadeout = fadeout;
      samples = samples;
    }

same_instrument : (name m m2 : List ℕ) (e p e2 p2 : Envelope) (v v2 : Vibrato) (f f2 : ℕ) (s s2 : List Sample) → m ≡ m2
    → e ≡ e2 → p ≡ p2 → v ≡ v2 → f ≡ f2 → s ≡ s2
    → make_instrument name m e p v f s ≡ make_instrument name m2 e2 p2 v2 f2 s2
same_instrument name m m2 e p e2 p2 v v2 f f2 s s2 em ee ep ev ef es = rw (em, ee, ep, ev, ef, es) refl

zero_point : (point : Point) (x y : ℕ) → point.x ≡ x → point.y ≡ y → make_point point.x point.y ≡ make_point x y
zero_point point x y e f = rw (e, f) refl

zero_points : (points : List Point) → All IsZeroPoint points
    → points ≡ replicate (length points) (record { x = 0; y = 0 })
zero_points [] all = refl
zero_points (point ∷ points) all =
    let z = All-head IsZeroPoint point points all in
    ap (λ (p : Point). p ∷ points) (zero_point point 0 0 z.0 z.1)
    ∙ ap (λ (l : List Point). record { x = 0; y = 0 } ∷ l) (zero_points points (All-tail IsZeroPoint point points all))

zero_map : (map : List ℕ) → All (λ sample. sample ≡ 0) map → map ≡ replicate (length map) 0
zero_map [] all = refl
zero_map (x ∷ map) all =
    ap (λ (y : ℕ). y ∷ map) (All-head (λ sample. sample ≡ 0) x map all)
    ∙ ap (λ (l : List ℕ). 0 ∷ l) (zero_map map (All-tail (λ sample. sample ≡ 0) x map all))

zero_envelope_is : (e : Envelope) → length e.points ≡ 12 → IsZeroEnvelope e → NO_ENVELOPE ≡ e
zero_envelope_is e twelve z =
    sym (same_envelope e.points (replicate 12 (record { x = 0; y = 0 })) e.count e.sustain e.loop_start e.loop_end
    e.flags 0 0 0 0 0
    (zero_points e.points z.points ∙ ap (λ (n : ℕ). replicate n (record { x = 0; y = 0 })) twelve) z.count z.sustain
    z.loop_start z.loop_end z.flags)

no_samples : (l : List Sample) → length l ≡ 0 → l ≡ []
no_samples [] e = refl
no_samples (x ∷ l) e = absurd (omega arith)

means_by : (none : Bool) (i : Instrument) → (length i.samples == 0) ≡ none → IsValidInstrument i
    → instrument_with (head_if none i) (rest_of none i).extra
    (map (λ sample. sample_from sample.header sample.steps) (rest_of none i).samples) ≡ i
unfolding instrument_with envelope_of vibrato_of
means_by true i e v =
    let none = eq_is (length i.samples) 0 e in
    let z = v.without none in
    same_instrument i.name (replicate 96 0) i.map NO_ENVELOPE NO_ENVELOPE i.volume i.panning (make_vibrato 0 0 0 0)
    i.vibrato 0 i.fadeout [] i.samples
    (sym (zero_map i.map z.map ∙ ap (λ (n : ℕ). replicate n 0) v.map_len))
    (zero_envelope_is i.volume v.volume.twelve z.volume) (zero_envelope_is i.panning v.panning.twelve z.panning)
    (sym
    (same_vibrato i.vibrato.kind i.vibrato.sweep i.vibrato.depth i.vibrato.rate 0 0 0 0 z.kind z.sweep z.depth
    z.rate)) (sym z.fadeout) (sym (no_samples i.samples none))
means_by false i e v =
    same_instrument i.name (map (min 15) i.map) i.map (envelope_of i.volume) (envelope_of i.panning) i.volume i.panning
    (vibrato_of i.vibrato) i.vibrato i.fadeout i.fadeout _ i.samples
    (map_kept (min 15) i.map (λ k d lt. least 15 _ (v.map k d lt))) (envelope_kept i.volume v.volume)
    (envelope_kept i.panning v.panning) (vibrato_kept i.vibrato v.vibrato) refl
    (map_back (λ sample. sample_from sample.header sample.steps) raw_sample_of i.samples
    (λ k d lt. sample_means _ (v.samples k d lt)))

pub instrument_means : (i : Instrument) → IsValidInstrument i → instrument_of (raw_instrument_of i) ≡ i
instrument_means i v = means_by (length i.samples == 0) i refl v
