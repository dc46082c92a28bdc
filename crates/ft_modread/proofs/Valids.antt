-- What bytes spell is valid, part by part.
use Rattle.std.proofs.Common.{◌≡◌, ℕ, ◌+◌, ◌-◌, ◌*◌, ◌%◌, ◌<◌, ◌≤◌, Bool, true, false, cond, List, [], ◌∷◌, length, take, map, All, min, refl, sym, subst, ◌∙◌, arith, rules}
use Rattle.std.specs.Prelude.{nat_lt, ◌==◌, not, FitsSigned, slice_index}
use Rattle.std.specs.Int.{w8, cast_signed}
use Rattle.std.proofs.lemmas.Bool.{and_parts, ltb-true}
use Rattle.std.proofs.lemmas.Bool.Decides.{nat_tests}
use Rattle.std.proofs.lemmas.List.{length-map, length-take-le, length-replicate}
use Rattle.std.proofs.lemmas.List.Elements.{All-map, All-nil, All-cons, All-head, All-tail, All-replicate, All-take, All-weaker}
use Rattle.std.proofs.lemmas.List.Sums.{AllPass-from_list_all}
use Rattle.ft_types.specs.declared.sample.Sample.{Sample}
use Rattle.ft_types.specs.Valid.{IsBytes, IsValid, IsValidPattern, IsValidCell, IsValidInstrument, IsValidEnvelope, IsValidPoint, IsValidLoop, IsValidSample, IsZeroEnvelope, IsZeroPoint}
use Rattle.ft_format.specs.declared.layout.TheConstants.{NO_ENVELOPE}
use Rattle.ft_format.specs.Fields.{AreBytes}
use Rattle.ft_modread.specs.declared.layout.TheConstants.{TRACKER, CELLS, MOST_ORDER}
use Rattle.ft_modread.specs.Layout.{file_part, filled_up, high_first}
use Rattle.ft_modread.specs.Notes.{nearest_of}
use Rattle.ft_modread.specs.Effects.{is_idle, is_slideless, is_finetune}
use Rattle.ft_modread.specs.Patterns.{cell_from, mod_cell, pattern_from}
use Rattle.ft_modread.specs.Samples.{data_bytes, loop_from, loop_size, is_looping, sample_made, instrument_made}
use Rattle.ft_modread.specs.Songs.{song_length, restart_in, all_orders, greatest, pattern_count_in, mod_pattern, header_in, data_place, instrument_in, mod_song, SpellsMod}
use Rattle.ft_modread.proofs.Each.{length_each, all_each}
use Rattle.ft_modread.proofs.Nearest.{nearest_low}
use Rattle.ft_modread.proofs.Parts.{IsByte, length_part, part_few, all_of_part, byte_of, bytes_of_part, front_of, all_padded, length_padded}

-- ---- cells and patterns

note_step : (b : Bool) (k : ℕ) → k ≤ 35 → cond b 0 (37 + k) ≤ 97
note_step true k le = omega arith
note_step false k le = omega (arith, le)

effect_step : (idle slideless five : Bool) (effect : ℕ) → effect < 256
    → cond idle 0 (cond slideless (cond five 3 4) effect) < 256
effect_step true slideless five effect lt = omega arith
effect_step false true true effect lt = omega arith
effect_step false true false effect lt = omega arith
effect_step false false five effect lt = lt

parameter_step : (idle fine : Bool) (parameter other : ℕ) → parameter < 256 → other < 256
    → cond idle 0 (cond fine other parameter) < 256
parameter_step true fine parameter other lt low = omega arith
parameter_step false true parameter other lt low = low
parameter_step false false parameter other lt low = lt

cell_valid : (a b c d : ℕ) → a < 256 → b < 256 → c < 256 → d < 256 → IsValidCell (cell_from a b c d)
unfolding cell_from
cell_valid a b c d la lb lc ld = record {
  note = note_step (256 * (a % 16) + b == 0) (nearest_of (256 * (a % 16) + b) 35) (nearest_low (256 * (a % 16) + b));
  instrument = omega (arith, la, lc);
  volume = omega arith;
  effect = effect_step (is_idle (c % 16) d) (is_slideless (c % 16) d) (c % 16 == 5) (c % 16) (omega arith);
  parameter = parameter_step (is_idle (c % 16) d) (is_finetune (c % 16) d) d (0x50 + (d + 8) % 16) ld (omega arith);
}

pattern_valid : (bytes : List ℕ) → All IsByte bytes → IsValidPattern 4 (pattern_from bytes)
unfolding pattern_from
pattern_valid bytes all = record {
  some_rows = omega arith;
  few_rows = omega arith;
  whole = length_each CELLS (mod_cell bytes);
  cells = all_each IsValidCell CELLS (mod_cell bytes) (λ k lt.
      cell_valid _ _ _ _ (byte_of bytes all (4 * k)) (byte_of bytes all (4 * k + 1)) (byte_of bytes all (4 * k + 2))
      (byte_of bytes all (4 * k + 3)));
}

-- ---- samples and instruments

frame_fits : (n : ℕ) → n < 256 → FitsSigned w8 (cast_signed w8 n)
frame_fits n lt = search rules

loop_valid : (looping : Bool) (start len frames : ℕ) → (looping ≡ true → 1 ≤ len) → start + len ≤ frames
    → IsValidLoop (cond looping 1 0) (cond looping start 0) (cond looping len 0) frames
loop_valid true start len frames some le = record {
  kind = omega arith;
  none_start = λ e. absurd (omega (arith, e));
  none_len = λ e. absurd (omega (arith, e));
  some_len = λ _. some refl;
  within = λ _. le;
}
loop_valid false start len frames some le = record {
  kind = omega arith;
  none_start = λ _. refl;
  none_len = λ _. refl;
  some_len = λ more. absurd (omega (arith, more));
  within = λ more. absurd (omega (arith, more));
}

not_zero : (n : ℕ) → not (n == 0) ≡ true → 1 ≤ n
not_zero n e = grind (arith, nat_tests)

some_loop : (header : List ℕ) → is_looping header ≡ true → 1 ≤ loop_size header
some_loop header e =
    not_zero (loop_size header) (and_parts (nat_lt 1 (high_first header 28)) (not (loop_size header == 0)) e).1

loop_within : (frames a b : ℕ) → min frames a + min (frames - min frames a) b ≤ frames
loop_within frames a b = omega arith

number_low : (header : List ℕ) (at : ℕ) → All IsByte header → high_first header at < 65536
number_low header at all = omega (arith, byte_of header all at, byte_of header all (at + 1))

frames_length : (header bytes : List ℕ) → length bytes ≤ data_bytes header
    → length (map (cast_signed w8) (filled_up (data_bytes header) bytes)) ≡ data_bytes header
frames_length header bytes few =
    length-map (filled_up (data_bytes header) bytes) (cast_signed w8) ∙ length_padded (data_bytes header) bytes few

sample_valid : (header bytes : List ℕ) → All IsByte header → All IsByte bytes → length header ≡ 30
    → length bytes ≤ data_bytes header → IsValidSample (sample_made header bytes)
unfolding sample_made
sample_valid header bytes all data_all len few =
    let size = frames_length header bytes few in
    record {
      name = front_of 22 header all (omega (arith, len));
      volume = omega arith;
      finetune = frame_fits (16 * (slice_index header 24 % 16)) (omega arith);
      relative = search rules;
      panning = omega arith;
      looping = subst (λ (frames : ℕ). IsValidLoop (cond (is_looping header) 1 0) (cond (is_looping header) (loop_from header) 0)
          (cond (is_looping header) (loop_size header) 0) frames) (sym size)
          (loop_valid (is_looping header) (loop_from header) (loop_size header) (data_bytes header) (some_loop header)
          (loop_within (data_bytes header) (2 * high_first header 26) (2 * high_first header 28)));
      few_frames = omega (arith, size, number_low header 22 all);
      frames = All-map (FitsSigned w8) (cast_signed w8) (filled_up (data_bytes header) bytes)
          (λ k d lt. frame_fits _ (all_padded (data_bytes header) bytes data_all k d lt));
    }

envelope_valid : IsValidEnvelope NO_ENVELOPE
envelope_valid = record {
  twelve = refl;
  points = All-replicate IsValidPoint 12 (record { x = 0; y = 0 }) (record { x = omega arith; y = omega arith });
  count = omega arith;
  sustain = omega arith;
  loop_start = omega arith;
  loop_end = omega arith;
  flags = omega arith;
}

envelope_zero : IsZeroEnvelope NO_ENVELOPE
envelope_zero = record {
  points = All-replicate IsZeroPoint 12 (record { x = 0; y = 0 }) (refl, refl);
  count = refl;
  sustain = refl;
  loop_start = refl;
  loop_end = refl;
  flags = refl;
}

-- one sample or none
few_step : (b : Bool) (sample : Sample) → length (cond b [] (sample ∷ [])) ≤ 16
few_step true sample = omega arith
few_step false sample = omega arith

all_step : (b : Bool) (sample : Sample) → IsValidSample sample → All IsValidSample (cond b [] (sample ∷ []))
all_step true sample valid = All-nil IsValidSample
all_step false sample valid = All-cons IsValidSample sample [] valid (All-nil IsValidSample)

instrument_valid : (header bytes : List ℕ) → All IsByte header → All IsByte bytes → length header ≡ 30
    → length bytes ≤ data_bytes header → IsValidInstrument (instrument_made header bytes)
unfolding instrument_made
instrument_valid header bytes all data_all len few = record {
  name = front_of 22 header all (omega (arith, len));
  map_len = length-replicate {A = ℕ} 96 0;
  map = All-replicate (λ sample. sample ≤ 15) 96 0 (omega arith);
  volume = envelope_valid;
  panning = envelope_valid;
  vibrato = record { kind = omega arith; sweep = omega arith; depth = omega arith; rate = omega arith };
  fadeout = omega arith;
  few_samples = few_step (data_bytes header == 0) (sample_made header bytes);
  samples = all_step (data_bytes header == 0) (sample_made header bytes) (sample_valid header bytes all data_all len few);
  without = λ _. record {
    map = All-replicate (λ sample. sample ≡ 0) 96 0 refl;
    volume = envelope_zero;
    panning = envelope_zero;
    kind = refl;
    sweep = refl;
    depth = refl;
    rate = refl;
    fadeout = refl;
  };
}

-- ---- the song

tracker_valid : IsBytes 20 TRACKER
tracker_valid = record {
  len = refl;
  each = All-weaker (λ x. nat_lt x 256 ≡ true) IsByte (λ x e. ltb-true x 256 e) TRACKER
      (AllPass-from_list_all (λ x. nat_lt x 256) TRACKER refl);
}

greatest_low : (n : ℕ) (orders : List ℕ) → All (λ order. order ≤ n) orders → greatest orders ≤ n
greatest_low n [] all = omega arith
greatest_low n (x ∷ xs) all =
    let head = All-head (λ order. order ≤ n) x xs all in
    let tail = greatest_low n xs (All-tail (λ order. order ≤ n) x xs all) in
    omega (arith, head, tail)

pub few_patterns : (file : List ℕ) → All (λ order. order ≤ MOST_ORDER) (all_orders file) → pattern_count_in file ≤ 128
unfolding pattern_count_in
few_patterns file all = omega (arith, greatest_low 127 (all_orders file) all)

pub some_patterns : (file : List ℕ) → 1 ≤ pattern_count_in file
unfolding pattern_count_in
some_patterns file = omega arith

restart_step : (restart len : ℕ) → 1 ≤ len → cond (nat_lt restart len) restart 0 < len
restart_step restart len le = grind (arith, nat_tests)

pub song_valid : (file : List ℕ) → AreBytes file → SpellsMod file (mod_song file) → IsValid (mod_song file)
unfolding mod_song
song_valid file bytes spells =
    let long : 1084 ≤ length file = omega (arith, spells.whole) in
    let orders : length (all_orders file) ≡ 128 = length_part 952 128 file (omega (arith, long)) in
    let count : length (take (song_length file) (all_orders file)) ≡ song_length file =
    length-take-le (song_length file) (all_orders file) (omega (arith, orders, spells.length)) in
    record {
      name = bytes_of_part 0 20 file bytes (omega (arith, long));
      tracker = tracker_valid;
      some_orders = omega (arith, count);
      few_orders = omega (arith, count, spells.length);
      orders = All-take IsByte (song_length file) (all_orders file) (all_of_part 952 128 file bytes);
      restart = subst (λ (n : ℕ). restart_in file < n) (sym count) (restart_step (slice_index file 951) (song_length file) (omega arith));
      some_channels = omega arith;
      few_channels = omega arith;
      some_tempo = omega arith;
      low_tempo = omega arith;
      some_bpm = omega arith;
      low_bpm = omega arith;
      few_patterns = omega (arith, length_each (pattern_count_in file) (mod_pattern file), few_patterns file spells.orders);
      patterns = all_each (IsValidPattern 4) (pattern_count_in file) (mod_pattern file)
          (λ p lt. pattern_valid (file_part (1084 + 1024 * p) 1024 file) (all_of_part (1084 + 1024 * p) 1024 file bytes));
      few_instruments = omega (arith, length_each 31 (instrument_in file));
      instruments = all_each IsValidInstrument 31 (instrument_in file) (λ i lt.
          instrument_valid (header_in file i) (file_part (data_place file i) (data_bytes (header_in file i)) file)
          (all_of_part (20 + 30 * i) 30 file bytes) (all_of_part (data_place file i) (data_bytes (header_in file i)) file bytes)
          (length_part (20 + 30 * i) 30 file (omega (arith, long, lt)))
          (part_few (data_place file i) (data_bytes (header_in file i)) file));
    }
