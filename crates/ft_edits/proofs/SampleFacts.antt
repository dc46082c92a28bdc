-- Edits of samples and frames keep them valid.
use Rattle.std.proofs.Common.{◌≡◌, ℕ, ◌+◌, ◌-◌, ◌<◌, ◌≤◌, Bool, true, false, cond, List, [], ◌∷◌, ◌++◌, length, take, drop, map, reverse, All, ℤ, pos, negsuc, refl, sym, subst, arith}
use Rattle.std.specs.Prelude.{◌==◌, ◌&&◌, ◌||◌, min, nat_le, nat_lt, FitsSigned, ◌*ℤ◌, Option, None, Some}
use Rattle.std.specs.Int.{w8, w16}
use Rattle.std.proofs.lemmas.Bool.Decides.{nat_tests}
use Rattle.std.proofs.lemmas.Int.{ints}
use Rattle.std.proofs.lemmas.List.{length-replicate, length-take, length-drop, length-append, length-map, length-reverse}
use Rattle.std.proofs.lemmas.List.Elements.{All-nil, All-cons, All-head, All-tail, All-replicate, All-take, All-drop, All-append, All-map}
use mathlib.Core.List.{reverse_aux}
use Rattle.ft_types.specs.declared.instrument.Instrument.{Instrument}
use Rattle.ft_types.specs.declared.sample.Sample.{Sample}
use Rattle.ft_types.specs.declared.edit_fault.EditFault.{EditFault}
use Rattle.ft_types.specs.declared.edit_fault.EditFault.TheVariants.{Range}
use Rattle.ft_types.specs.Valid.{IsBytes, IsValidInstrument, IsValidSample, IsValidLoop, width_of}
use Rattle.ft_edits.specs.Lists.{stretch_of, with_stretch, without_last}
use Rattle.ft_edits.specs.Faults.{is_narrow, first_wide_frame, first_cause}
use Rattle.ft_edits.specs.Instruments.{named_only}
use Rattle.ft_edits.specs.Samples.{new_sample, with_new_sample, without_sample, with_loop, refitted, without_frames, with_new_frames, turned, floor_of, clamped, scaled_frame, scaled, widened, narrowed, with_bits}
use Rattle.ft_edits.proofs.ListFacts.{all-stretch}
use Rattle.ft_edits.proofs.SongFacts.{with_valid_samples}
use Rattle.ft_edits.proofs.InstrumentFacts.{named_valid}
use Rattle.ft_edits.proofs.Causes.{most}

no_loop : (frames : ℕ) → IsValidLoop 0 0 0 frames
no_loop frames = record {
  kind = omega arith;
  none_start = λ none. refl;
  none_len = λ none. refl;
  some_len = λ some. absurd (omega (arith, some));
  within = λ some. absurd (omega (arith, some));
}

fits_zero : FitsSigned w8 (pos 0)
fits_zero = omega (arith, ints)

pub new_valid : IsValidSample new_sample
new_valid = record {
  name = record { len = length-replicate {A = ℕ} 22 0; each = All-replicate (λ byte. byte < 256) 22 0 (omega arith) };
  volume = omega arith;
  finetune = fits_zero;
  relative = fits_zero;
  panning = omega arith;
  looping = no_loop 0;
  few_frames = omega arith;
  frames = All-nil (FitsSigned w8);
}

pub new_sample_kept : (instrument : Instrument) → length instrument.samples + 1 ≤ 16 → IsValidInstrument instrument
    → IsValidInstrument (with_new_sample instrument)
new_sample_kept instrument few v =
    let len = length-append instrument.samples (new_sample ∷ []) in
    with_valid_samples instrument (instrument.samples ++ new_sample ∷ []) v (omega (arith, len))
    (omega (arith, len, few))
    (All-append IsValidSample instrument.samples (new_sample ∷ []) v.samples
    (All-cons IsValidSample new_sample [] new_valid (All-nil IsValidSample)))

without_when : (b : Bool) (instrument : Instrument) → nat_le (length instrument.samples) 1 ≡ b
    → IsValidInstrument instrument
    → IsValidInstrument
    (cond b (named_only instrument.name) (record instrument { samples = without_last instrument.samples }))
without_when true instrument is v = named_valid instrument.name v.name
without_when false instrument is v =
    let more : 1 < length instrument.samples = grind (arith, nat_tests) in
    let len = length-take (length instrument.samples - 1) instrument.samples in
    with_valid_samples instrument (without_last instrument.samples) v (omega (arith, len, more))
    (omega (arith, len, v.few_samples))
    (All-take IsValidSample (length instrument.samples - 1) instrument.samples v.samples)

pub without_kept : (instrument : Instrument) → IsValidInstrument instrument
    → IsValidInstrument (without_sample instrument)
without_kept instrument v = without_when (nat_le (length instrument.samples) 1) instrument refl v

-- ---- heads and loops

pub sample_name_kept : (name : List ℕ) (sample : Sample) → IsBytes 22 name → IsValidSample sample
    → IsValidSample (record sample { name = name })
sample_name_kept name sample bytes v = record {
  name = bytes;
  volume = v.volume;
  finetune = v.finetune;
  relative = v.relative;
  panning = v.panning;
  looping = v.looping;
  few_frames = v.few_frames;
  frames = v.frames;
}

pub sample_head_kept : (vol : ℕ) (fine rel : ℤ) (pan : ℕ) (sample : Sample) → vol ≤ 64 → FitsSigned w8 fine
    → FitsSigned w8 rel → pan < 256
    → IsValidSample sample
    → IsValidSample (record sample { volume = vol; finetune = fine; relative = rel; panning = pan })
sample_head_kept vol fine rel pan sample a b c d v = record {
  name = v.name;
  volume = a;
  finetune = b;
  relative = c;
  panning = d;
  looping = v.looping;
  few_frames = v.few_frames;
  frames = v.frames;
}

pub with_valid_loop : (kind start len : ℕ) (sample : Sample) → IsValidLoop kind start len (length sample.frames)
    → IsValidSample sample → IsValidSample (record sample { loop_kind = kind; loop_start = start; loop_len = len })
with_valid_loop kind start len sample valid v = record {
  name = v.name;
  volume = v.volume;
  finetune = v.finetune;
  relative = v.relative;
  panning = v.panning;
  looping = valid;
  few_frames = v.few_frames;
  frames = v.frames;
}

-- a loop of a kind that is none has the numbers 0
loop_of : (kind start len frames : ℕ) → kind ≤ 2 → (1 ≤ kind → 1 ≤ len) → (1 ≤ kind → start + len ≤ frames)
    → IsValidLoop kind (cond (kind == 0) 0 start) (cond (kind == 0) 0 len) frames
loop_of kind start len frames few some within = record {
  kind = few;
  none_start = λ none. grind (arith, nat_tests);
  none_len = λ none. grind (arith, nat_tests);
  some_len = λ more. let h = some more in grind (arith, nat_tests);
  within = λ more. let h = within more in grind (arith, nat_tests);
}

loop_len : (kind start len frames : ℕ) → ((kind == 0) || ((nat_lt 0 len) && nat_le (start + len) frames)) ≡ true
    → 1 ≤ kind → 1 ≤ len
loop_len kind start len frames holds more = grind (arith, nat_tests)

loop_end : (kind start len frames : ℕ) → ((kind == 0) || ((nat_lt 0 len) && nat_le (start + len) frames)) ≡ true
    → 1 ≤ kind → start + len ≤ frames
loop_end kind start len frames holds more = grind (arith, nat_tests)

pub loop_kept : (kind start len : ℕ) (sample : Sample) → kind ≤ 2
    → ((kind == 0) || ((nat_lt 0 len) && nat_le (start + len) (length sample.frames))) ≡ true
    → IsValidSample sample → IsValidSample (with_loop kind start len sample)
loop_kept kind start len sample few holds v =
    with_valid_loop kind (cond (kind == 0) 0 start) (cond (kind == 0) 0 len) sample
    (loop_of kind start len (length sample.frames) few (loop_len kind start len (length sample.frames) holds)
    (loop_end kind start len (length sample.frames) holds)) v

-- ---- frames

-- frames of another number, with the loop that the sample has there
record FitsFrames (frames : List ℤ) (sample : Sample) : Type 0 where
  few : length frames ≤ 3932160
  each : All (FitsSigned (width_of sample.wide)) frames

with_loop_and_frames : (kind start len : ℕ) (frames : List ℤ) (sample : Sample) → IsValidSample sample
    → FitsFrames frames sample
    → IsValidLoop kind start len (length frames)
    → IsValidSample (record sample { loop_kind = kind; loop_start = start; loop_len = len; frames = frames })
with_loop_and_frames kind start len frames sample v fits valid = record {
  name = v.name;
  volume = v.volume;
  finetune = v.finetune;
  relative = v.relative;
  panning = v.panning;
  looping = valid;
  few_frames = fits.few;
  frames = fits.each;
}

fit_when : (b : Bool) (frames : List ℤ) (sample : Sample) (start len : ℕ) → (len == 0) ≡ b → len ≤ length frames - start
    → start ≤ length frames
    → IsValidSample sample → FitsFrames frames sample
    → IsValidSample
    (cond b (with_loop 0 0 0 (record sample { frames = frames }))
    (with_loop sample.loop_kind start len (record sample { frames = frames })))
fit_when true frames sample start len is in_len in_start v fits =
    with_loop_and_frames 0 0 0 frames sample v fits (no_loop (length frames))
fit_when false frames sample start len is in_len in_start v fits =
    let some : 1 ≤ len = grind (arith, nat_tests) in
    with_loop_and_frames sample.loop_kind (cond (sample.loop_kind == 0) 0 start) (cond (sample.loop_kind == 0) 0 len)
    frames sample v fits
    (loop_of sample.loop_kind start len (length frames) v.looping.kind (λ more. some)
    (λ more. omega (arith, in_len, in_start)))

refit_valid : (frames : List ℤ) (sample : Sample) → IsValidSample sample → FitsFrames frames sample
    → IsValidSample (refitted (record sample { frames = frames }))
refit_valid frames sample v fits =
    let start : ℕ = min (length frames) sample.loop_start in
    let len : ℕ = min (length frames - start) sample.loop_len in
    fit_when (len == 0) frames sample start len refl (omega arith) (omega arith) v fits

pub cut_kept : (from to : ℕ) (sample : Sample) → from ≤ to → IsValidSample sample
    → IsValidSample (without_frames from to sample)
cut_kept from to sample order v =
    refit_valid (take from sample.frames ++ drop to sample.frames) sample v (record {
      few = omega (
        arith,
        v.few_frames,
        order,
        length-append (take from sample.frames) (drop to sample.frames),
        length-take from sample.frames,
        length-drop to sample.frames,
      );
      each = All-append (FitsSigned (width_of sample.wide)) (take from sample.frames) (drop to sample.frames)
          (All-take (FitsSigned (width_of sample.wide)) from sample.frames v.frames)
          (All-drop (FitsSigned (width_of sample.wide)) to sample.frames v.frames);
    })

pub paste_kept : (at : ℕ) (new : List ℤ) (sample : Sample) → length sample.frames + length new ≤ 3932160
    → All (FitsSigned (width_of sample.wide)) new → IsValidSample sample → IsValidSample (with_new_frames at new sample)
paste_kept at new sample few fits v =
    let frames = sample.frames in
    refit_valid (take at frames ++ (new ++ drop at frames)) sample v (record {
      few = omega (
        arith,
        few,
        length-append (take at frames) (new ++ drop at frames),
        length-append new (drop at frames),
        length-take at frames,
        length-drop at frames,
      );
      each = All-append (FitsSigned (width_of sample.wide)) (take at frames) (new ++ drop at frames)
          (All-take (FitsSigned (width_of sample.wide)) at frames v.frames)
          (All-append (FitsSigned (width_of sample.wide)) new (drop at frames) fits
          (All-drop (FitsSigned (width_of sample.wide)) at frames v.frames));
    })

-- as many frames, in the same width
same_frames : (frames : List ℤ) (sample : Sample) → length frames ≡ length sample.frames
    → All (FitsSigned (width_of sample.wide)) frames → IsValidSample sample
    → IsValidSample (record sample { frames = frames })
same_frames frames sample same fits v = record {
  name = v.name;
  volume = v.volume;
  finetune = v.finetune;
  relative = v.relative;
  panning = v.panning;
  looping = subst (IsValidLoop sample.loop_kind sample.loop_start sample.loop_len) (sym same) v.looping;
  few_frames = subst (λ n. n ≤ 3932160) (sym same) v.few_frames;
  frames = fits;
}

stretch_length : (change : List ℤ → List ℤ) (from to : ℕ) (frames : List ℤ)
    → ((xs : List ℤ) → length (change xs) ≡ length xs)
    → from ≤ to → to ≤ length frames → length (with_stretch from to change frames) ≡ length frames
stretch_length change from to frames same order below =
    omega (
      arith,
      order,
      below,
      length-append (take from frames) (change (stretch_of from to frames) ++ drop to frames),
      length-append (change (stretch_of from to frames)) (drop to frames),
      same (stretch_of from to frames),
      length-take from frames,
      length-drop to frames,
      length-take (to - from) (drop from frames),
      length-drop from frames,
    )

all-reverse-aux : (P : ℤ → Type 0) (xs back : List ℤ) → All P xs → All P back → All P (reverse_aux xs back)
all-reverse-aux P [] back all more = more
all-reverse-aux P (x ∷ xs) back all more =
    all-reverse-aux P xs (x ∷ back) (All-tail P x xs all) (All-cons P x back (All-head P x xs all) more)

pub turned_kept : (from to : ℕ) (sample : Sample) → from ≤ to → to ≤ length sample.frames → IsValidSample sample
    → IsValidSample (turned from to sample)
turned_kept from to sample order below v =
    same_frames (with_stretch from to reverse sample.frames) sample
    (stretch_length reverse from to sample.frames (λ xs. length-reverse xs) order below)
    (all-stretch (FitsSigned (width_of sample.wide)) reverse from to sample.frames v.frames
    (λ xs all. all-reverse-aux (FitsSigned (width_of sample.wide)) xs [] all (All-nil (FitsSigned (width_of sample.wide)))))
    v

clamped_fits : (wide : Bool) (x : ℤ) → FitsSigned (width_of wide) (clamped wide x)
clamped_fits true x = grind (arith, ints)
clamped_fits false x = grind (arith, ints)

pub scaled_kept : (from to : ℕ) (n : ℤ) (d : ℕ) (sample : Sample) → from ≤ to → to ≤ length sample.frames
    → IsValidSample sample
    → IsValidSample (scaled from to n d sample)
scaled_kept from to n d sample order below v =
    let change : ℤ → ℤ = scaled_frame sample.wide n d in
    same_frames (with_stretch from to (map change) sample.frames) sample
    (stretch_length (map change) from to sample.frames (λ xs. length-map xs change) order below)
    (all-stretch (FitsSigned (width_of sample.wide)) (map change) from to sample.frames v.frames
    (λ xs all. All-map (FitsSigned (width_of sample.wide)) change xs (λ k d2 lt. clamped_fits sample.wide (floor_of (_ *ℤ n) d))))
    v

other_width : (wide : Bool) (frames : List ℤ) (sample : Sample) → length frames ≡ length sample.frames
    → All (FitsSigned (width_of wide)) frames → IsValidSample sample
    → IsValidSample (record sample { wide = wide; frames = frames })
other_width wide frames sample same fits v = record {
  name = v.name;
  volume = v.volume;
  finetune = v.finetune;
  relative = v.relative;
  panning = v.panning;
  looping = subst (IsValidLoop sample.loop_kind sample.loop_start sample.loop_len) (sym same) v.looping;
  few_frames = subst (λ n. n ≤ 3932160) (sym same) v.few_frames;
  frames = fits;
}

wide_fits : (x : ℤ) → FitsSigned w8 x → FitsSigned w16 (pos 256 *ℤ x)
wide_fits x fits = grind (arith, ints)

narrow_fits : (x : ℤ) → FitsSigned w16 x → FitsSigned w8 (floor_of x 256)
narrow_fits (pos n) fits = omega (arith, ints)
narrow_fits (negsuc n) fits = omega (arith, ints)

widened_kept : (sample : Sample) → sample.wide ≡ false → IsValidSample sample → IsValidSample (widened sample)
widened_kept sample is v =
    let old : All (FitsSigned w8) sample.frames =
    subst (λ (b : Bool). All (FitsSigned (width_of b)) sample.frames) is v.frames in
    other_width true (map (λ frame. pos 256 *ℤ frame) sample.frames) sample
    (length-map sample.frames (λ frame. pos 256 *ℤ frame))
    (All-map (FitsSigned w16) (λ frame. pos 256 *ℤ frame) sample.frames
    (λ k d lt. wide_fits _ (old k d lt))) v

narrowed_kept : (sample : Sample) → sample.wide ≡ true → IsValidSample sample → IsValidSample (narrowed sample)
narrowed_kept sample is v =
    let old : All (FitsSigned w16) sample.frames =
    subst (λ (b : Bool). All (FitsSigned (width_of b)) sample.frames) is v.frames in
    other_width false (map (λ frame. floor_of frame 256) sample.frames) sample
    (length-map sample.frames (λ frame. floor_of frame 256))
    (All-map (FitsSigned w8) (λ frame. floor_of frame 256) sample.frames
    (λ k d lt. narrow_fits _ (old k d lt))) v

bits_when : (sixteen wide : Bool) (sample : Sample) → sample.wide ≡ wide → IsValidSample sample
    → IsValidSample (cond sixteen (cond wide sample (widened sample)) (cond wide (narrowed sample) sample))
bits_when true true sample is v = v
bits_when true false sample is v = widened_kept sample is v
bits_when false true sample is v = narrowed_kept sample is v
bits_when false false sample is v = v

pub bits_kept : (b : ℕ) (sample : Sample) → IsValidSample sample → IsValidSample (with_bits b sample)
bits_kept b sample v = bits_when (b == 16) sample.wide sample refl v

-- ---- frames that are given

narrow_frame : (x : ℤ) → is_narrow x ≡ true → FitsSigned w8 x
narrow_frame (pos n) holds = let h : n ≤ 127 = most n 127 holds in omega (arith, ints)
narrow_frame (negsuc n) holds = let h : n ≤ 127 = most n 127 holds in omega (arith, ints)

next_narrow : (b : Bool) (frame : ℤ) (frames : List ℤ) → is_narrow frame ≡ b
    → cond b (first_wide_frame frames) (Some (Range 16 frame)) ≡ None
    → (FitsSigned w8 frame) × (first_wide_frame frames ≡ None)
next_narrow true frame frames is none = (narrow_frame frame is, none)
next_narrow false frame frames is none = absurd cc

all_narrow : (frames : List ℤ) → first_wide_frame frames ≡ None → All (FitsSigned w8) frames
all_narrow [] none = All-nil (FitsSigned w8)
all_narrow (frame ∷ frames) none =
    let h = next_narrow (is_narrow frame) frame frames refl none in
    All-cons (FitsSigned w8) frame frames h.0 (all_narrow frames h.1)

only : (cause : Option EditFault) → first_cause (cause ∷ []) ≡ None → cause ≡ None
only None none = refl
only (Some fault) none = absurd cc

pub given_fit : (wide : Bool) (frames : List ℤ) → All (FitsSigned w16) frames
    → first_cause (cond wide None (first_wide_frame frames) ∷ []) ≡ None → All (FitsSigned (width_of wide)) frames
given_fit true frames fits none = fits
given_fit false frames fits none = all_narrow frames (only (first_wide_frame frames) none)
