-- What edits make of samples and their frames.
use Rattle.std.specs.Prelude.{ℕ, ◌-◌, ◌==◌, Bool, true, false, List, [], ◌∷◌, ◌++◌, length, take, drop, map, replicate, reverse, min, ℤ, pos, negsuc, ◌*ℤ◌, nat_le, if◌then◌else◌}
use Rattle.std.specs.Int.{int_min, int_max, int_div_euclid}
use Rattle.ft_types.specs.declared.module.Module.{Module}
use Rattle.ft_types.specs.declared.instrument.Instrument.{Instrument}
use Rattle.ft_types.specs.declared.sample.Sample.{Sample}
use Rattle.ft_edits.specs.Lists.{changed_at, with_stretch, without_last}
use Rattle.ft_edits.specs.Instruments.{with_instrument, named_only}

-- the sample of a number, from 0, of an instrument, from 1, changed
abbrev pub with_sample : ℕ → ℕ → (Sample → Sample) → Module → Module
with_sample i s change =
    with_instrument i
    (λ (instrument : Instrument).
    record instrument { samples = changed_at s change instrument.samples })

-- ---- samples of an instrument

-- 8 bits, no frames, volume 64, panning 128, else 0
abbrev pub new_sample : Sample
new_sample = record {
  name = replicate 22 0;
  volume = 64;
  finetune = pos 0;
  relative = pos 0;
  panning = 128;
  wide = false;
  loop_kind = 0;
  loop_start = 0;
  loop_len = 0;
  frames = [];
}

abbrev pub with_new_sample : Instrument → Instrument
with_new_sample instrument = record instrument { samples = instrument.samples ++ new_sample ∷ [] }

-- the last sample goes, and with the only one all that the instrument said but its name
abbrev pub without_sample : Instrument → Instrument
without_sample instrument =
    if nat_le (length instrument.samples) 1 then named_only instrument.name
    else record instrument { samples = without_last instrument.samples }

-- ---- loops

abbrev pub with_loop : ℕ → ℕ → ℕ → Sample → Sample
with_loop kind start len sample = record sample {
  loop_kind = kind;
  loop_start = if kind == 0 then 0 else start;
  loop_len = if kind == 0 then 0 else len;
}

-- the loop brought into the frames; none is left where it has no frame there
abbrev pub refitted : Sample → Sample
refitted sample =
    let start = min (length sample.frames) sample.loop_start in
    let len = min (length sample.frames - start) sample.loop_len in
    if len == 0 then with_loop 0 0 0 sample else with_loop sample.loop_kind start len sample

-- ---- frames

abbrev pub with_frames : (List ℤ → List ℤ) → Sample → Sample
with_frames change sample = record sample { frames = change sample.frames }

-- the frames from one up to another go
abbrev pub without_frames : ℕ → ℕ → Sample → Sample
without_frames from to sample =
    refitted (with_frames (λ frames. take from frames ++ drop to frames) sample)

-- frames come before one
abbrev pub with_new_frames : ℕ → List ℤ → Sample → Sample
with_new_frames at new sample =
    refitted (with_frames (λ frames. take at frames ++ (new ++ drop at frames)) sample)

abbrev pub turned : ℕ → ℕ → Sample → Sample
turned from to = with_frames (with_stretch from to reverse)

-- the quotient, rounded down
abbrev pub floor_of : ℤ → ℕ → ℤ
floor_of x d = int_div_euclid x (pos d)

-- brought into the range of 8 or 16 bits
abbrev pub clamped : Bool → ℤ → ℤ
clamped wide x =
    if wide then int_max (negsuc 32767) (int_min x (pos 32767))
    else int_max (negsuc 127) (int_min x (pos 127))

abbrev pub scaled_frame : Bool → ℤ → ℕ → ℤ → ℤ
scaled_frame wide n d x = clamped wide (floor_of (x *ℤ n) d)

abbrev pub scaled : ℕ → ℕ → ℤ → ℕ → Sample → Sample
scaled from to n d sample =
    with_frames (with_stretch from to (map (scaled_frame sample.wide n d))) sample

abbrev pub widened : Sample → Sample
widened sample =
    record sample { wide = true; frames = map (λ frame. pos 256 *ℤ frame) sample.frames }

abbrev pub narrowed : Sample → Sample
narrowed sample =
    record sample { wide = false; frames = map (λ frame. floor_of frame 256) sample.frames }

-- frames of 8 or 16 bits; those that have this width already stay as they are
abbrev pub with_bits : ℕ → Sample → Sample
with_bits b sample =
    if b == 16 then (if sample.wide then sample else widened sample)
    else (if sample.wide then narrowed sample else sample)
