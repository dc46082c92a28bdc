-- The generated song is valid.
use Rattle.std.proofs.Common.{◌≡◌, ℕ, zero, suc, ◌/◌, ◌<◌, ◌≤◌, Bool, true, false, cond, List, [], ◌++◌, length, replicate, All, pos, refl, ap, arith}
use Rattle.std.specs.Prelude.{◌-ℤ◌, FitsSigned, ◌==◌, nat_lt, codes}
use Rattle.std.specs.Int.{w16}
use Rattle.std.proofs.lemmas.Int.{ints}
use Rattle.std.proofs.lemmas.Nat.{mod_below}
use Rattle.std.proofs.lemmas.Bool.Decides.{nat_tests}
use Rattle.std.proofs.lemmas.List.Sums.{AllPass-from_list_all}
use Rattle.std.specs.List.{list_all, range_with_len}
use Rattle.std.proofs.lemmas.List.Elements.{All-nil, All-cons, All-replicate}
use Rattle.ft_types.specs.Valid.{IsBytes, IsValid, IsValidPattern, IsValidCell, IsValidInstrument, IsValidEnvelope, IsValidPoint, IsValidSample}
use Rattle.ft_format.specs.declared.layout.TheConstants.{EMPTY_CELL, NO_ENVELOPE}
use Rattle.ft_xmwrite.specs.Generate.{next, draw, drawn, generated_effect, drawn_note, drawn_cell, drawn_pattern, drawn_frame, drawn_sample, drawn_instrument, generated}

-- ---- drawn lists

pub length-drawn : {A : Type 0} (one : ℕ → A × ℕ) (n x : ℕ) → length (drawn n one x).0 ≡ n
unfolding drawn
length-drawn one zero x = refl
length-drawn one (suc n) x = ap suc (length-drawn one n (one x).1)

-- what holds of each value that can be drawn holds of each that is
all_drawn : {A : Type 0} (P : A → Type 0) (one : ℕ → A × ℕ) (n x : ℕ) → ((y : ℕ) → P (one y).0)
    → All P (drawn n one x).0
unfolding drawn
all_drawn P one zero x each = All-nil P
all_drawn P one (suc n) x each =
    All-cons P (one x).0 (drawn n one (one x).1).0 (each x) (all_drawn P one n (one x).1 each)

draw_low : (n x : ℕ) → 0 < n → (draw n x).0 < n
unfolding draw
draw_low n x some = mod_below (next x / 65536) n some

-- ---- cells and patterns

effect_low : (k : ℕ) → generated_effect k < 256
effect_low zero = omega arith
effect_low (suc zero) = omega arith
effect_low (suc (suc zero)) = omega arith
effect_low (suc (suc (suc zero))) = omega arith
effect_low (suc (suc (suc (suc k)))) = omega arith

note_valid : (x : ℕ) → IsValidCell (drawn_note x).0
unfolding drawn_note
note_valid x =
    let note = draw 48 x in
    let instrument = draw 16 note.1 in
    let volume = draw 65 instrument.1 in
    let effect = draw 4 volume.1 in
    let a = draw_low 48 x (omega arith) in
    let b = draw_low 16 note.1 (omega arith) in
    let d = draw_low 65 instrument.1 (omega arith) in
    record {
      note = omega (arith, a);
      instrument = omega (arith, b);
      volume = omega (arith, d);
      effect = effect_low effect.0;
      parameter = draw_low 256 effect.1 (omega arith);
    }

empty_valid : IsValidCell EMPTY_CELL
empty_valid =
    record {
      note = omega arith;
      instrument = omega arith;
      volume = omega arith;
      effect = omega arith;
      parameter = omega arith;
    }

either_valid : (some : Bool) (x : ℕ) → IsValidCell (cond some (drawn_note x) (EMPTY_CELL, x)).0
either_valid true x = note_valid x
either_valid false x = empty_valid

cell_valid : (x : ℕ) → IsValidCell (drawn_cell x).0
unfolding drawn_cell
cell_valid x = either_valid ((draw 4 x).0 == 0) (draw 4 x).1

pattern_valid : (x : ℕ) → IsValidPattern 8 (drawn_pattern x).0
unfolding drawn_pattern
pattern_valid x = record {
  some_rows = omega arith;
  few_rows = omega arith;
  whole = length-drawn drawn_cell 512 x;
  cells = all_drawn IsValidCell drawn_cell 512 x cell_valid;
}

-- ---- instruments

below_test : (n : ℕ) → nat_lt n 256 ≡ true → n < 256
below_test n e = grind (arith, nat_tests)

-- bytes that are written out
bytes : (xs : List ℕ) → list_all (λ x. nat_lt x 256) xs ≡ true → All (λ byte. byte < 256) xs
bytes xs e k d lt = below_test _ (AllPass-from_list_all (λ x. nat_lt x 256) xs e k d lt)

shifted_fits : (n : ℕ) → n < 65536 → FitsSigned w16 (pos n -ℤ pos 32768)
shifted_fits n lt = omega (arith, ints)

frame_fits : (x : ℕ) → FitsSigned w16 (drawn_frame x).0
unfolding drawn_frame
frame_fits x = shifted_fits (draw 65536 x).0 (draw_low 65536 x (omega arith))

no_name : IsBytes 22 (replicate 22 0)
no_name = record { len = refl; each = All-replicate (λ byte. byte < 256) 22 0 (omega arith) }

sample_valid : (x : ℕ) → IsValidSample (drawn_sample x).0
unfolding drawn_sample
sample_valid x =
    let panning = draw 256 x in
    let count : length (drawn 16384 drawn_frame panning.1).0 ≡ 16384 = length-drawn drawn_frame 16384 panning.1 in
    record {
      name = no_name;
      volume = omega arith;
      finetune = omega (arith, ints);
      relative = omega (arith, ints);
      panning = draw_low 256 x (omega arith);
      looping = record {
        kind = omega arith;
        none_start = λ _. refl;
        none_len = λ none. absurd (omega (arith, none));
        some_len = λ _. omega arith;
        within = λ _. omega (arith, count);
      };
      few_frames = omega (arith, count);
      frames = all_drawn (FitsSigned w16) drawn_frame 16384 panning.1 frame_fits;
    }

point_valid : IsValidPoint (record { x = 0; y = 0 })
point_valid = record { x = omega arith; y = omega arith }

envelope_valid : IsValidEnvelope NO_ENVELOPE
envelope_valid = record {
  twelve = refl;
  points = All-replicate IsValidPoint 12 (record { x = 0; y = 0 }) point_valid;
  count = omega arith;
  sustain = omega arith;
  loop_start = omega arith;
  loop_end = omega arith;
  flags = omega arith;
}

instrument_valid : (x : ℕ) → IsValidInstrument (drawn_instrument x).0
unfolding drawn_instrument
instrument_valid x = record {
  name = no_name;
  map_len = refl;
  map = All-replicate (λ sample. sample ≤ 15) 96 0 (omega arith);
  volume = envelope_valid;
  panning = envelope_valid;
  vibrato = record { kind = omega arith; sweep = omega arith; depth = omega arith; rate = omega arith };
  fadeout = omega arith;
  few_samples = omega arith;
  samples = All-cons IsValidSample (drawn_sample x).0 [] (sample_valid x) (All-nil IsValidSample);
  without = λ none. absurd (omega (arith, none));
}

-- ---- the song

pub generated_valid : (number : ℕ) → IsValid (generated number)
unfolding generated
generated_valid number =
    let patterns = drawn 40 drawn_pattern number in
    let played = length-drawn drawn_pattern 40 number in
    let heard = length-drawn drawn_instrument 16 patterns.1 in
    record {
      name = record { len = refl; each = bytes (codes "generated" ++ replicate 11 0) refl };
      tracker = record { len = refl; each = bytes (codes "xmstudio" ++ replicate 12 0) refl };
      some_orders = omega arith;
      few_orders = omega arith;
      orders = bytes (range_with_len 0 40) refl;
      restart = omega arith;
      some_channels = omega arith;
      few_channels = omega arith;
      some_tempo = omega arith;
      low_tempo = omega arith;
      some_bpm = omega arith;
      low_bpm = omega arith;
      few_patterns = omega (arith, played);
      patterns = all_drawn (IsValidPattern 8) drawn_pattern 40 number pattern_valid;
      few_instruments = omega (arith, heard);
      instruments = all_drawn IsValidInstrument drawn_instrument 16 patterns.1 instrument_valid;
    }
