-- What bytes spell is valid, part by part.
use Rattle.std.proofs.Common.{◌≡◌, ℕ, ◌+◌, ◌-◌, ◌*◌, ◌/◌, ◌%◌, ◌<◌, ◌≤◌, Bool, true, false, cond, List, [], ◌++◌, length, map, replicate, All, ℤ, refl, sym, ap, subst, ◌∙◌, arith}
use Rattle.std.specs.Prelude.{nat_lt, nat_le, ◌||◌, ◌==◌, min, FitsSigned}
use Rattle.std.proofs.lemmas.Bool.Decides.{nat_tests}
use Rattle.std.proofs.lemmas.List.{length-map, length-replicate, length-take, length-append}
use Rattle.std.proofs.lemmas.List.Elements.{All-map, All-nil, All-replicate, All-take, All-append}
use Rattle.ft_types.specs.declared.pattern.Cell.{Cell}
use Rattle.ft_types.specs.declared.pattern.Pattern.{Pattern}
use Rattle.ft_types.specs.declared.instrument.Instrument.{Instrument}
use Rattle.ft_types.specs.declared.instrument.Envelope.{Envelope}
use Rattle.ft_types.specs.declared.instrument.Point.{Point}
use Rattle.ft_types.specs.declared.instrument.Vibrato.{Vibrato}
use Rattle.ft_types.specs.declared.sample.Sample.{Sample}
use Rattle.ft_types.specs.Valid.{IsValid, IsValidPattern, IsValidCell, IsValidInstrument, IsValidEnvelope, IsValidPoint, IsValidVibrato, IsValidSample, IsZeroInstrument, IsZeroEnvelope, IsZeroPoint, width_of}
use Rattle.ft_format.specs.declared.instrument.InstrumentHead.{InstrumentHead}
use Rattle.ft_format.specs.declared.instrument.Extra.{Extra}
use Rattle.ft_format.specs.declared.cell.RawCell.{RawCell}
use Rattle.ft_format.specs.declared.layout.TheConstants.{EMPTY_CELL, NO_EXTRA, NO_ENVELOPE}
use Rattle.ft_format.specs.Fields.{IsByteIf, IsField, AllFit}
use Rattle.ft_format.specs.Header.{RawHeader, HeaderFits, length_of, restart_of, orders_of, song_from}
use Rattle.ft_format.specs.Pattern.{RawCellFits, has, cell_of, RawPattern, RawPatternFits, DataFits, rows_of, pattern_of}
use Rattle.ft_format.specs.Sample.{RawSample, RawSampleFits, is_wide, frame_count, loop_kind_of, loop_start_of, loop_len_of, is_unlooped, narrow_frames, wide_frames, sample_from}
use Rattle.ft_format.specs.Instrument.{RawInstrument, RawRest, RawInstrumentFits, HeadFits, RestFits, PointFits, VibratoFits, ExtraFits, point_of, envelope_of, vibrato_of, instrument_with, instrument_of}
use Rattle.ft_format.specs.Spelling.{RawSong, SongFits, module_of}
use Rattle.ft_format.specs.Laws.{SpelledIsValid}
use Rattle.ft_format.proofs.Bytes.{are_bytes, bytes_of, all_of}
use Rattle.ft_format.proofs.Frames.{narrow_signed, narrow_fit, wide_fit, narrow_length, wide_length}

-- ---- cells and patterns

note_low : (n : ℕ) → cond (nat_le n 97) n 0 ≤ 97
note_low n = grind (arith, nat_tests)

byte_if_small : (b : Bool) (x : ℕ) → IsByteIf b x → x < 256
byte_if_small true x fits = omega (arith, fits)
byte_if_small false x fits = omega (arith, fits)

cell_valid : (raw : RawCell) → RawCellFits raw → IsValidCell (cell_of raw)
cell_valid raw fits = record {
  note = note_low raw.cell.note;
  instrument = byte_if_small (has raw.first 2) raw.cell.instrument fits.instrument;
  volume = byte_if_small (has raw.first 4) raw.cell.volume fits.volume;
  effect = byte_if_small (has raw.first 8) raw.cell.effect fits.effect;
  parameter = byte_if_small (has raw.first 16) raw.cell.parameter fits.parameter;
}

empty_valid : IsValidCell EMPTY_CELL
empty_valid =
    record {
      note = omega arith;
      instrument = omega arith;
      volume = omega arith;
      effect = omega arith;
      parameter = omega arith;
    }

-- what the cells of a pattern are
record Cells (count : ℕ) (cells : List Cell) : Type 0 where
  whole : length cells ≡ count
  each : All IsValidCell cells

data_valid : (none : Bool) (count packed : ℕ) (x : List RawCell × List ℕ) → DataFits none count packed x
    → Cells count (cond none (replicate count EMPTY_CELL) (map cell_of x.0))
data_valid true count packed x fits = record {
  whole = length-replicate {A = Cell} count EMPTY_CELL;
  each = All-replicate IsValidCell count EMPTY_CELL empty_valid;
}
data_valid false count packed x fits = record {
  whole = length-map x.0 cell_of ∙ fits.fits.count;
  each = All-map IsValidCell cell_of x.0 (λ k d lt. cell_valid _ (fits.fits.each k d lt));
}

some_rows : (n : ℕ) → 1 ≤ cond (n == 0) 64 n
some_rows n = grind (arith, nat_tests)

few_rows : (n : ℕ) → n ≤ 256 → cond (n == 0) 64 n ≤ 256
few_rows n le = grind (arith, nat_tests)

pattern_valid : (channels : ℕ) (raw : RawPattern) → RawPatternFits channels raw
    → IsValidPattern channels (pattern_of channels raw)
unfolding pattern_of
pattern_valid channels raw fits =
    let d =
    data_valid (raw.head.packed == 0) (rows_of raw.head * channels) raw.head.packed (raw.cells, raw.surplus)
    fits.cells in
    record {
      some_rows = some_rows raw.head.rows;
      few_rows = few_rows raw.head.rows fits.head.rows;
      whole = d.whole;
      cells = d.each;
    }

-- ---- samples

-- the loop that is in a sample, where the test says that it has none
abbrev kept : Bool → ℕ → ℕ
kept none x = cond none 0 x

-- the numbers of a loop that fits that many frames
record Loop (frames kind start len : ℕ) : Type 0 where
  low : kind ≤ 2
  none_start : kind ≡ 0 → start ≡ 0
  none_len : kind ≡ 0 → len ≡ 0
  some_len : 1 ≤ kind → 1 ≤ len
  within : 1 ≤ kind → start + len ≤ frames

not_zero_kind : (kind len : ℕ) → ((kind == 0) || (len == 0)) ≡ false → kind ≡ 0 → ⊥
not_zero_kind kind len e z = grind (arith, nat_tests)

not_zero_len : (kind len : ℕ) → ((kind == 0) || (len == 0)) ≡ false → 1 ≤ len
not_zero_len kind len e = grind (arith, nat_tests)

loop_valid : (none : Bool) (frames kind start len : ℕ) → ((kind == 0) || (len == 0)) ≡ none → kind ≤ 2 → start ≤ frames
    → len ≤ frames - start → Loop frames (kept none kind) (kept none start) (kept none len)
loop_valid true frames kind start len e low in_start in_len = record {
  low = omega arith;
  none_start = λ _. refl;
  none_len = λ _. refl;
  some_len = λ le. absurd (omega (arith, le));
  within = λ le. absurd (omega (arith, le));
}
loop_valid false frames kind start len e low in_start in_len = record {
  low = low;
  none_start = λ z. absurd (not_zero_kind kind len e z);
  none_len = λ z. absurd (not_zero_kind kind len e z);
  some_len = λ le. not_zero_len kind len e;
  within = λ le. omega (arith, in_start, in_len);
}

-- frames of a width
record Frames (wide : Bool) (count : ℕ) (frames : List ℤ) : Type 0 where
  len : length frames ≡ count
  each : All (FitsSigned (width_of wide)) frames

frames_valid : (wide : Bool) (steps : List ℕ)
    → Frames wide (cond wide (length steps / 2) (length steps)) (cond wide (wide_frames steps) (narrow_frames steps))
frames_valid true steps = record { len = wide_length steps; each = wide_fit steps }
frames_valid false steps = record { len = narrow_length steps; each = narrow_fit steps }

min_low : (a b : ℕ) → min a b ≤ a
min_low a b = omega arith

sample_valid : (raw : RawSample) → RawSampleFits raw → IsValidSample (sample_from raw.header raw.steps)
unfolding sample_from
sample_valid raw fits =
    let h = raw.header in
    let f = frames_valid (is_wide h) raw.steps in
    let count : cond (is_wide h) (length raw.steps / 2) (length raw.steps) ≡ frame_count h =
    ap (λ (n : ℕ). cond (is_wide h) (n / 2) n) fits.steps.0 in
    let l =
    loop_valid (is_unlooped h) (frame_count h) (loop_kind_of h) (loop_start_of h) (loop_len_of h) refl
    (min_low 2 (h.kind % 4)) (min_low (frame_count h) _) (min_low (frame_count h - loop_start_of h) _) in
    record {
      name = are_bytes 22 h.name fits.header.name;
      volume = min_low 64 h.volume;
      finetune = narrow_signed h.finetune (omega (arith, fits.header.finetune));
      relative = narrow_signed h.relative (omega (arith, fits.header.relative));
      panning = omega (arith, fits.header.panning);
      looping = record {
        kind = l.low;
        none_start = l.none_start;
        none_len = l.none_len;
        some_len = l.some_len;
        within = λ some. omega (arith, l.within some, f.len, count);
      };
      few_frames = subst (λ (n : ℕ). n ≤ 3932160) (sym (f.len ∙ count)) fits.header.few_frames;
      frames = f.each;
    }

-- ---- instruments

low_of : (most : ℕ) (xs : List ℕ) → All (λ x. x ≤ most) (map (min most) xs)
low_of most xs = All-map (λ x. x ≤ most) (min most) xs (λ k d lt. min_low most _)

point_valid : (point : Point) → PointFits point → IsValidPoint (point_of point)
point_valid point fits = record { x = omega (arith, fits.x); y = min_low 64 point.y }

envelope_valid : (e : Envelope) → AllFit 12 PointFits e.points → IsValidEnvelope (envelope_of e)
unfolding envelope_of
envelope_valid e fits = record {
  twelve = length-map e.points point_of ∙ fits.count;
  points = All-map IsValidPoint point_of e.points (λ k d lt. point_valid _ (fits.each k d lt));
  count = min_low 12 e.count;
  sustain = min_low 11 e.sustain;
  loop_start = min_low 11 e.loop_start;
  loop_end = min_low 11 e.loop_end;
  flags = omega arith;
}

low_kind : (n : ℕ) → cond (nat_le n 3) n 0 ≤ 3
low_kind n = grind (arith, nat_tests)

vibrato_valid : (v : Vibrato) → VibratoFits v → IsValidVibrato (vibrato_of v)
unfolding vibrato_of
vibrato_valid v fits =
    record {
      kind = low_kind v.kind;
      sweep = omega (arith, fits.sweep);
      depth = min_low 15 v.depth;
      rate = min_low 63 v.rate;
    }

zero_fits : ExtraFits NO_EXTRA
zero_fits =
    let points : AllFit 12 PointFits NO_ENVELOPE.points =
    record
    { count = refl; each = All-replicate PointFits 12 (record { x = 0; y = 0 }) (record { x = omega arith; y = omega arith }) }
    in
    record {
      header_size = omega arith;
      map = (refl, bytes_of (replicate 96 0) (All-replicate (λ byte. byte < 256) 96 0 (omega arith)));
      envelopes = record {
        volume = points;
        panning = points;
        shapes = record {
          counts = record { volume = omega arith; panning = omega arith };
          volume = record { sustain = omega arith; loop_start = omega arith; loop_end = omega arith };
          panning = record { sustain = omega arith; loop_start = omega arith; loop_end = omega arith };
          flags = record { volume = omega arith; panning = omega arith };
        };
      };
      vibrato = record { kind = omega arith; sweep = omega arith; depth = omega arith; rate = omega arith };
      fadeout = omega arith;
    }

zero_zero : (head : InstrumentHead) → IsZeroInstrument (instrument_with head NO_EXTRA [])
unfolding instrument_with envelope_of vibrato_of
zero_zero head =
    let envelope : IsZeroEnvelope (envelope_of NO_ENVELOPE) = record {
      points = All-replicate IsZeroPoint 12 (record { x = 0; y = 0 }) (refl, refl);
      count = refl;
      sustain = refl;
      loop_start = refl;
      loop_end = refl;
      flags = refl;
    } in
    record {
      map = All-replicate (λ sample. sample ≡ 0) 96 0 refl;
      volume = envelope;
      panning = envelope;
      kind = refl;
      sweep = refl;
      depth = refl;
      rate = refl;
      fadeout = refl;
    }

with_valid : (head : InstrumentHead) (extra : Extra) (samples : List Sample) → IsField 22 head.name → ExtraFits extra
    → length samples ≤ 16 → All IsValidSample samples
    → (length samples ≡ 0 → IsZeroInstrument (instrument_with head extra samples))
    → IsValidInstrument (instrument_with head extra samples)
unfolding instrument_with
with_valid head extra samples name fits few all without = record {
  name = are_bytes 22 head.name name;
  map_len = length-map extra.map (min 15) ∙ fits.map.0;
  map = low_of 15 extra.map;
  volume = envelope_valid extra.envelopes.volume fits.envelopes.volume;
  panning = envelope_valid extra.envelopes.panning fits.envelopes.panning;
  vibrato = vibrato_valid extra.vibrato fits.vibrato;
  fadeout = omega (arith, fits.fadeout);
  few_samples = few;
  samples = all;
  without = without;
}

abbrev sample_in : RawSample → Sample
sample_in raw = sample_from raw.header raw.steps

not_empty : (n : ℕ) → (n == 0) ≡ false → n ≡ 0 → ⊥
not_empty n e z = grind (arith, nat_tests)

rest_valid : (none : Bool) (head : InstrumentHead) (rest : RawRest) → (head.samples == 0) ≡ none → HeadFits head
    → RestFits none head rest
    → IsValidInstrument (instrument_with head rest.extra (map sample_in rest.samples))
rest_valid true head rest e h fits =
    let zero : instrument_with head NO_EXTRA [] ≡ instrument_with head rest.extra (map sample_in rest.samples) =
    rw (fits.extra, fits.samples) refl in
    subst IsValidInstrument zero
    (with_valid head NO_EXTRA [] h.name zero_fits (omega arith) (All-nil IsValidSample) (λ _. zero_zero head))
rest_valid false head rest e h fits =
    let count : length (map sample_in rest.samples) ≡ head.samples =
    length-map rest.samples sample_in ∙ fits.samples.count in
    with_valid head rest.extra (map sample_in rest.samples) h.name fits.extra.fits (omega (arith, count, h.samples))
    (All-map IsValidSample sample_in rest.samples (λ k d lt. sample_valid _ (fits.samples.each k d lt)))
    (λ z. absurd (not_empty head.samples e (sym count ∙ z)))

instrument_valid : (raw : RawInstrument) → RawInstrumentFits raw → IsValidInstrument (instrument_of raw)
instrument_valid raw fits = rest_valid (raw.head.samples == 0) raw.head raw.rest refl fits.head fits.rest

-- ---- the song

restart_low : (restart n : ℕ) → 1 ≤ n → cond (nat_lt restart n) restart 0 < n
restart_low restart n some = grind (arith, nat_tests)

order_count : (n : ℕ) (table : List ℕ) → n ≤ 256 → length (orders_of n table) ≡ n
order_count n table few =
    omega (
      arith,
      few,
      length-take n (table ++ replicate 256 0),
      length-append table (replicate 256 0),
      length-replicate
          {A = ℕ} 256 0,
    )

order_bytes : (n : ℕ) (table : List ℕ) → All (λ byte. byte < 256) table → All (λ byte. byte < 256) (orders_of n table)
order_bytes n table all =
    All-take (λ byte. byte < 256) n (table ++ replicate 256 0)
    (All-append (λ byte. byte < 256) table (replicate 256 0) all
    (All-replicate (λ byte. byte < 256) 256 0 (omega arith)))

header_valid : (raw : RawHeader) (patterns : List Pattern) (instruments : List Instrument) → HeaderFits raw
    → length patterns ≡ raw.settings.patterns → All (IsValidPattern raw.sizes.channels) patterns
    → length instruments ≡ raw.settings.instruments → All IsValidInstrument instruments
    → IsValid (song_from raw patterns instruments)
unfolding song_from
header_valid raw patterns instruments fits many ps all is =
    let n = length_of raw.sizes in
    let few : n ≤ 256 = omega (arith, fits.sizes.length) in
    let count = order_count n raw.orders few in
    record {
      name = are_bytes 20 raw.titles.name fits.titles.name;
      tracker = are_bytes 20 raw.titles.tracker fits.titles.tracker;
      some_orders = omega (arith, count);
      few_orders = omega (arith, count, few);
      orders = order_bytes n raw.orders (all_of raw.orders fits.orders.1);
      restart = subst (λ (k : ℕ). restart_of raw.sizes < k) (sym count) (restart_low raw.sizes.restart n (omega arith));
      some_channels = fits.sizes.some_channels;
      few_channels = fits.sizes.few_channels;
      some_tempo = omega arith;
      low_tempo = omega arith;
      some_bpm = omega arith;
      low_bpm = omega arith;
      few_patterns = omega (arith, many, fits.settings.patterns);
      patterns = ps;
      few_instruments = omega (arith, all, fits.settings.instruments);
      instruments = is;
    }

module_valid : (raw : RawSong) → SongFits raw → IsValid (module_of raw)
unfolding module_of
module_valid raw fits =
    let channels = raw.header.sizes.channels in
    header_valid raw.header (map (pattern_of channels) raw.patterns) (map instrument_of raw.instruments) fits.header
    (length-map raw.patterns (pattern_of channels) ∙ fits.patterns_count)
    (All-map (IsValidPattern channels) (pattern_of channels) raw.patterns
    (λ k d lt. pattern_valid channels _ (fits.patterns k d lt)))
    (length-map raw.instruments instrument_of ∙ fits.instruments_count)
    (All-map IsValidInstrument instrument_of raw.instruments (λ k d lt. instrument_valid _ (fits.instruments k d lt)))

pub spelled_valid : SpelledIsValid
spelled_valid bytes song s = subst IsValid s.means (module_valid s.raw s.fits)
