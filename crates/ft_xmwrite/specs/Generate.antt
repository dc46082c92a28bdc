-- The generated song of a number. Its notes, pannings and frames are drawn one after the other,
-- from a state that begins as the number.
use Rattle.std.specs.Prelude.{ℕ, zero, suc, ◌+◌, ◌*◌, ◌/◌, ◌%◌, ◌^◌, ◌-ℤ◌, ℤ, pos, true, List, [], ◌∷◌, ◌++◌, replicate, get_or, ◌==◌, if◌then◌else◌, codes}
use Rattle.std.specs.List.{range_with_len}
use Rattle.ft_types.specs.declared.module.Module.{Module}
use Rattle.ft_types.specs.declared.pattern.Pattern.{Pattern}
use Rattle.ft_types.specs.declared.pattern.Cell.{Cell}
use Rattle.ft_types.specs.declared.instrument.Instrument.{Instrument}
use Rattle.ft_types.specs.declared.sample.Sample.{Sample}
use Rattle.ft_format.specs.declared.layout.TheConstants.{EMPTY_CELL, NO_ENVELOPE, NO_VIBRATO}

-- ---- drawing: a state gives a value, and the state after it

-- the state after the next number
unfoldable pub next : ℕ → ℕ
next x = (1664525 * x + 1013904223) % 2 ^ 32

-- a number below n, from the high half of the next state
unfoldable pub draw : ℕ → ℕ → ℕ × ℕ
draw n x = (next x / 65536 % n, next x)

-- as many, one after the other
unfoldable pub drawn : {A : Type 0} → ℕ → (ℕ → A × ℕ) → ℕ → List A × ℕ
drawn zero one x = ([], x)
drawn (suc n) one x =
    let first = one x in
    let others = drawn n one first.1 in
    (first.0 ∷ others.0, others.1)

-- ---- patterns

-- one of the effects 0, 1, 4 and 10
abbrev pub generated_effect : ℕ → ℕ
generated_effect k = get_or (0 ∷ 1 ∷ 4 ∷ 10 ∷ []) k 0

-- note, instrument, volume, effect and parameter, in this order
unfoldable pub drawn_note : ℕ → Cell × ℕ
drawn_note x =
    let note = draw 48 x in
    let instrument = draw 16 note.1 in
    let volume = draw 65 instrument.1 in
    let effect = draw 4 volume.1 in
    let parameter = draw 256 effect.1 in (
      record {
        note = 25 + note.0;
        instrument = 1 + instrument.0;
        volume = 16 + volume.0;
        effect = generated_effect effect.0;
        parameter = parameter.0;
      },
      parameter.1,
    )

-- a cell is empty unless a number below 4 is 0
unfoldable pub drawn_cell : ℕ → Cell × ℕ
drawn_cell x =
    let chance = draw 4 x in
    if chance.0 == 0 then drawn_note chance.1 else (EMPTY_CELL, chance.1)

-- 64 rows of 8 channels
unfoldable pub drawn_pattern : ℕ → Pattern × ℕ
drawn_pattern x =
    let cells = drawn 512 drawn_cell x in
    (record { rows = 64; cells = cells.0 }, cells.1)

-- ---- instruments

-- any value of 16 bits
unfoldable pub drawn_frame : ℕ → ℤ × ℕ
drawn_frame x = let frame = draw 65536 x in (pos frame.0 -ℤ pos 32768, frame.1)

-- panning and frames; all frames are looped forward
unfoldable pub drawn_sample : ℕ → Sample × ℕ
drawn_sample x =
    let panning = draw 256 x in
    let frames = drawn 16384 drawn_frame panning.1 in (
      record {
        name = replicate 22 0;
        volume = 32;
        finetune = pos 0;
        relative = pos 0;
        panning = panning.0;
        wide = true;
        loop_kind = 1;
        loop_start = 0;
        loop_len = 16384;
        frames = frames.0;
      },
      frames.1,
    )

-- all 0 but the one sample
unfoldable pub drawn_instrument : ℕ → Instrument × ℕ
drawn_instrument x =
    let sample = drawn_sample x in (
      record {
        name = replicate 22 0;
        map = replicate 96 0;
        volume = NO_ENVELOPE;
        panning = NO_ENVELOPE;
        vibrato = NO_VIBRATO;
        fadeout = 0;
        samples = sample.0 ∷ [];
      },
      sample.1,
    )

-- ---- the song

-- 40 patterns, each played once, and then 16 instruments
unfoldable pub generated : ℕ → Module
generated number =
    let patterns = drawn 40 drawn_pattern number in
    let instruments = drawn 16 drawn_instrument patterns.1 in
    record {
      name = codes "generated" ++ replicate 11 0;
      tracker = codes "xmstudio" ++ replicate 12 0;
      restart = 0;
      channels = 8;
      linear = true;
      tempo = 6;
      bpm = 125;
      orders = range_with_len 0 40;
      patterns = patterns.0;
      instruments = instruments.0;
    }
