-- The two laws of what is in the head of an instrument with samples.
use Rattle.std.proofs.Common.{ℕ, List, refl}
use Rattle.ft_types.specs.declared.instrument.Point.{Point}
use Rattle.ft_types.specs.declared.instrument.Vibrato.{Vibrato}
use Rattle.ft_format.specs.declared.instrument.Pair.{Pair}
use Rattle.ft_format.specs.declared.instrument.Turns.{Turns}
use Rattle.ft_format.specs.declared.instrument.Shapes.{Shapes}
use Rattle.ft_format.specs.declared.instrument.Envelopes.{Envelopes}
use Rattle.ft_format.specs.declared.instrument.Extra.{Extra}
use Rattle.ft_format.specs.Instrument.{point_text, pair_text, turns_text, vibrato_text, shapes_of, shapes_text, envelopes_text, extra_text, PointFits, PairFits, TurnsFit, VibratoFits, ShapesFit, EnvelopesFit, ExtraFits}
use Rattle.ft_xmread.specs.Reader.{FileReading, field_at, number_at, seen}
use Rattle.ft_xmread.specs.Instrument.{point_spelled_at, points_at, pair_at, turns_at, vibrato_at, shapes_at, shaped, envelopes_at, extra_at}
use Rattle.ft_xmread.proofs.Chains.{both2, both3, both4, both5, alike2, alike3, alike4, alike5}
use Rattle.ft_xmread.proofs.Lawful.{Lawful, Alike, alike_law, field_law, byte_law, u16_law, u32_law, pair_law, seen_law, times_law}

-- ---- the parts

abbrev make_point : ℕ → ℕ → Point
make_point x y = record { x = x; y = y }

abbrev point_parts : FileReading Point
point_parts = seen (λ x. make_point x.0 x.1) (both2 (number_at 2) (number_at 2))

point_alike : Alike point_spelled_at point_parts
unfolding point_spelled_at
point_alike = alike2 (number_at 2) (number_at 2) make_point

point_law : Lawful point_spelled_at point_text PointFits
point_law =
    alike_law point_spelled_at point_parts point_text PointFits point_alike (seen_law _ (λ point. (point.x, point.y)) _ _ _
    point_text PointFits (pair_law _ _ _ _ _ _ u16_law u16_law)
    (λ x f. (record { x = f.0; y = f.1 }, refl))
    (λ y g. ((g.x, g.y), refl, refl)))

abbrev make_pair : ℕ → ℕ → Pair
make_pair volume panning = record { volume = volume; panning = panning }

abbrev pair_parts : FileReading Pair
pair_parts = seen (λ x. make_pair x.0 x.1) (both2 (number_at 1) (number_at 1))

pair_alike : Alike pair_at pair_parts
unfolding pair_at
pair_alike = alike2 (number_at 1) (number_at 1) make_pair

two_law : Lawful pair_at pair_text PairFits
two_law =
    alike_law pair_at pair_parts pair_text PairFits pair_alike (seen_law _ (λ pair. (pair.volume, pair.panning)) _ _ _
    pair_text PairFits (pair_law _ _ _ _ _ _ byte_law byte_law)
    (λ x f. (record { volume = f.0; panning = f.1 }, refl))
    (λ y g. ((g.volume, g.panning), refl, refl)))

abbrev make_turns : ℕ → ℕ → ℕ → Turns
make_turns sustain loop_start loop_end = record { sustain = sustain; loop_start = loop_start; loop_end = loop_end }

abbrev turns_parts : FileReading Turns
turns_parts = seen (λ x. make_turns x.0 x.1.0 x.1.1) (both3 (number_at 1) (number_at 1) (number_at 1))

turns_alike : Alike turns_at turns_parts
unfolding turns_at
turns_alike = alike3 (number_at 1) (number_at 1) (number_at 1) make_turns

turns_law : Lawful turns_at turns_text TurnsFit
turns_law =
    alike_law turns_at turns_parts turns_text TurnsFit turns_alike (seen_law _
    (λ turns. (turns.sustain, (turns.loop_start, turns.loop_end))) _ _ _ turns_text TurnsFit
    (pair_law _ _ _ _ _ _ byte_law (pair_law _ _ _ _ _ _ byte_law byte_law))
    (λ x f. (record { sustain = f.0; loop_start = f.1.0; loop_end = f.1.1 }, refl))
    (λ y g. ((g.sustain, (g.loop_start, g.loop_end)), refl, refl)))

abbrev make_vibrato : ℕ → ℕ → ℕ → ℕ → Vibrato
make_vibrato kind sweep depth rate = record { kind = kind; sweep = sweep; depth = depth; rate = rate }

abbrev vibrato_parts : FileReading Vibrato
vibrato_parts =
    seen (λ x. make_vibrato x.0 x.1.0 x.1.1.0 x.1.1.1) (both4 (number_at 1) (number_at 1) (number_at 1) (number_at 1))

vibrato_alike : Alike vibrato_at vibrato_parts
unfolding vibrato_at
vibrato_alike = alike4 (number_at 1) (number_at 1) (number_at 1) (number_at 1) make_vibrato

vibrato_law : Lawful vibrato_at vibrato_text VibratoFits
vibrato_law =
    alike_law vibrato_at vibrato_parts vibrato_text VibratoFits vibrato_alike (seen_law _
    (λ vibrato. (vibrato.kind, (vibrato.sweep, (vibrato.depth, vibrato.rate)))) _ _ _ vibrato_text VibratoFits
    (pair_law _ _ _ _ _ _ byte_law (pair_law _ _ _ _ _ _ byte_law (pair_law _ _ _ _ _ _ byte_law byte_law)))
    (λ x f. (record { kind = f.0; sweep = f.1.0; depth = f.1.1.0; rate = f.1.1.1 }, refl))
    (λ y g. ((g.kind, (g.sweep, (g.depth, g.rate))), refl, refl)))

-- ---- the envelopes

abbrev make_shapes : Pair → Turns → Turns → Pair → Shapes
make_shapes counts volume panning flags = record { counts = counts; volume = volume; panning = panning; flags = flags }

abbrev shapes_parts : FileReading Shapes
shapes_parts = seen (λ x. make_shapes x.0 x.1.0 x.1.1.0 x.1.1.1) (both4 pair_at turns_at turns_at pair_at)

shapes_alike : Alike shapes_at shapes_parts
unfolding shapes_at
shapes_alike = alike4 pair_at turns_at turns_at pair_at make_shapes

shapes_law : Lawful shapes_at shapes_text ShapesFit
shapes_law =
    alike_law shapes_at shapes_parts shapes_text ShapesFit shapes_alike (seen_law _
    (λ shapes. (shapes.counts, (shapes.volume, (shapes.panning, shapes.flags)))) _ _ _ shapes_text ShapesFit
    (pair_law _ _ _ _ _ _ two_law (pair_law _ _ _ _ _ _ turns_law (pair_law _ _ _ _ _ _ turns_law two_law)))
    (λ x f. (record { counts = f.0; volume = f.1.0; panning = f.1.1.0; flags = f.1.1.1 }, refl))
    (λ y g. ((g.counts, (g.volume, (g.panning, g.flags))), refl, refl)))

abbrev make_envelopes : List Point → List Point → Shapes → Envelopes
make_envelopes volume panning shapes =
    record {
      volume = shaped volume shapes.counts.volume shapes.volume shapes.flags.volume;
      panning = shaped panning shapes.counts.panning shapes.panning shapes.flags.panning;
    }

abbrev envelopes_parts : FileReading Envelopes
envelopes_parts = seen (λ x. make_envelopes x.0 x.1.0 x.1.1) (both3 points_at points_at shapes_at)

envelopes_alike : Alike envelopes_at envelopes_parts
unfolding envelopes_at
envelopes_alike = alike3 points_at points_at shapes_at make_envelopes

envelopes_law : Lawful envelopes_at envelopes_text EnvelopesFit
envelopes_law = alike_law envelopes_at envelopes_parts envelopes_text EnvelopesFit envelopes_alike
    (seen_law _ (λ envelopes. (envelopes.volume.points, (envelopes.panning.points, shapes_of envelopes))) _ _ _
    envelopes_text EnvelopesFit
    (pair_law _ _ _ _ _ _ (times_law (λ _. point_spelled_at) point_text PointFits (λ _. point_law) 0 12)
    (pair_law _ _ _ _ _ _ (times_law (λ _. point_spelled_at) point_text PointFits (λ _. point_law) 0 12) shapes_law))
    (λ x f. (record { volume = f.0; panning = f.1.0; shapes = f.1.1 }, refl))
    (λ y g. ((g.volume, (g.panning, g.shapes)), refl, refl)))

-- ---- the whole

abbrev make_extra : ℕ → List ℕ → Envelopes → Vibrato → ℕ → Extra
make_extra header_size map envelopes vibrato fadeout =
    record { header_size = header_size; map = map; envelopes = envelopes; vibrato = vibrato; fadeout = fadeout }

abbrev extra_parts : FileReading Extra
extra_parts =
    seen (λ x. make_extra x.0 x.1.0 x.1.1.0 x.1.1.1.0 x.1.1.1.1)
    (both5 (number_at 4) (field_at 96) envelopes_at vibrato_at (number_at 2))

extra_alike : Alike extra_at extra_parts
unfolding extra_at
extra_alike = alike5 (number_at 4) (field_at 96) envelopes_at vibrato_at (number_at 2) make_extra

pub extra_law : Lawful extra_at extra_text ExtraFits
unfolding extra_text
extra_law = alike_law extra_at extra_parts extra_text ExtraFits extra_alike
    (seen_law _ (λ extra. (extra.header_size, (extra.map, (extra.envelopes, (extra.vibrato, extra.fadeout))))) _ _ _ _
    ExtraFits
    (pair_law _ _ _ _ _ _ u32_law
    (pair_law _ _ _ _ _ _ (field_law 96)
    (pair_law _ _ _ _ _ _ envelopes_law (pair_law _ _ _ _ _ _ vibrato_law u16_law))))
    (λ x f.
    (record { header_size = f.0; map = f.1.0; envelopes = f.1.1.0; vibrato = f.1.1.1.0; fadeout = f.1.1.1.1 }, refl))
    (λ y g. ((g.header_size, (g.map, (g.envelopes, (g.vibrato, g.fadeout)))), refl, refl)))
