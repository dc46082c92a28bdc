-- The sizes of a song, by its words.
use Rattle.std.proofs.Common.{◌≡◌, ℕ, zero, suc, ◌<◌, ◌≤◌, Bool, Option, Some, None, min, length, refl, sym, ap, subst, ◌∙◌, arith, true, false}
use Rattle.std.specs.List.{slice_get}
use Rattle.std.proofs.lemmas.Option.{none-some, slice_get_past, slice_get_within, get_or_from_slice_get}
use Rattle.ft_types.specs.declared.module.Module.{Module}
use Rattle.ft_types.specs.declared.instrument.Instrument.{Instrument}
use Rattle.ft_types.specs.declared.sample.Sample.{Sample}
use Rattle.ft_types.specs.declared.voice.SampleHead.{SampleHead}
use Rattle.ft_types.specs.Valid.{IsValid, IsValidSample}
use Rattle.ft_types.specs.Views.{instrument_at, sample_in, head_of}
use Rattle.ft_segments.specs.Packing.{digit, word_at, id_at}
use Rattle.ft_segments.specs.Walk.{InstrumentIds, Placed, ids_of, samples_in, sample_walk}
use Rattle.ft_edits.specs.declared.sizes.SongSizes.{SongSizes}
use Rattle.ft_edits.specs.declared.sizes.SampleSizes.{SampleSizes}
use Rattle.ft_edits.specs.Sizes.{song_sizes, sample_sizes}
use Rattle.ft_edits.specs.Faults.{sample_count, sample_length, width_in}
use Rattle.ft_image.specs.Values.{bit, head_word}
use Rattle.ft_image.specs.Shown.{Shows}
use Rattle.ft_image.specs.Read.{HasInstrument, IsRootOf, sample_root_at, sample_ids_in, root_or_none}
use Rattle.ft_placed.proofs.Lists.{stored, length_below}
use Rattle.ft_placed.proofs.Walked.{root_walk, pattern_count, instrument_count, sample_at_walk, sample_walk_root}

bit-le : (b : Bool) → bit b ≤ 1
bit-le true = omega arith
bit-le false = omega arith

pub head_back : (m : Module) (word : ℕ) → IsValid m → word ≡ head_word m
    → (digit 256 word 4 ≡ m.channels) × (digit 65536 word 0 ≡ length m.orders)
unfolding head_word
head_back m word valid is =
    let l = valid.few_orders in
    let r = valid.restart in
    let c = valid.few_channels in
    let t = valid.low_tempo in
    let b = valid.low_bpm in
    let f = bit-le m.linear in
    (omega arith, omega arith)

pub song_read : (p : Placed) (m : Module) (root head counts channels orders patterns instruments : ℕ)
    → Shows p m → p.root ≡ root → head ≡ word_at p.pool root 0 → counts ≡ word_at p.pool root 1
    → channels ≡ digit 256 head 4 → orders ≡ digit 65536 head 0
    → patterns ≡ digit 65536 counts 0 → instruments ≡ digit 65536 counts 1
    → ◌≡◌ {A = SongSizes}
    (record { channels = channels; orders = orders; patterns = patterns; instruments = instruments })
    (song_sizes m)
song_read p m root head counts channels orders patterns instruments shows here h n c o k i =
    let at_root : root ≡ (ids_of p).root = sym here ∙ sym (root_walk p) in
    let both = head_back m head shows.valid (h ∙ ap (λ (r : ℕ). word_at p.pool r 0) at_root ∙ shows.stands.root.head) in
    let word : counts ≡ word_at p.pool p.root 1 = n ∙ ap (λ (r : ℕ). word_at p.pool r 1) (sym here) in
    let ps : patterns ≡ length m.patterns
    = k ∙ ap (λ (w : ℕ). digit 65536 w 0) word ∙ sym (pattern_count p) ∙ shows.stands.patterns.count in
    let is : instruments ≡ length m.instruments
    = i ∙ ap (λ (w : ℕ). digit 65536 w 1) word ∙ sym (instrument_count p) ∙ shows.stands.instruments.count in
    rw (c ∙ both.0, o ∙ both.1, ps, is) refl

-- ---- samples

-- there is no such instrument
pub no_sizes : (m : Module) (i s : ℕ) → instrument_at m i ≡ None
    → ◌≡◌ {A = SampleSizes} (record { samples = 0; frames = 0; wide = false }) (sample_sizes m i s)
no_sizes m i s none = rw none refl

-- how many samples an instrument has
pub samples_read : (p : Placed) (m : Module) (i found samples : ℕ) → (has : HasInstrument p m i found)
    → samples ≡ digit 256 (word_at p.pool found 0) 0 → samples ≡ length has.instrument.samples
samples_read p m i found samples has is =
    is ∙ sym (length_below (samples_in p.pool found) (λ s. sample_walk p.pool (id_at p.pool found 30 s))) ∙ has.shown.each.count

pub short_sizes : (p : Placed) (m : Module) (i s found samples : ℕ) → (has : HasInstrument p m i found)
    → samples ≡ digit 256 (word_at p.pool found 0) 0 → samples ≤ s
    → ◌≡◌ {A = SampleSizes} (record { samples = samples; frames = 0; wide = false }) (sample_sizes m i s)
short_sizes p m i s found samples has is le =
    let count = samples_read p m i found samples has is in
    let none : slice_get has.instrument.samples s ≡ None = slice_get_past has.instrument.samples s (omega (arith, count, le)) in
    rw (has.stored, count, none) refl

-- a sample that is there, by its root
pub record SampleRead (p : Placed) (m : Module) (i s root : ℕ) : Type 0 where
  pub sample : Sample
  pub is : sample_in (instrument_at m i) s ≡ Some sample
  pub at : sample_root_at p i s ≡ Some root

pub sample_read : (p : Placed) (m : Module) (i s found samples root : ℕ) → (has : HasInstrument p m i found)
    → samples ≡ digit 256 (word_at p.pool found 0) 0 → s < samples → root ≡ id_at p.pool found 30 s → SampleRead p m i s root
sample_read p m i s found samples root has is lt id =
    let count = samples_read p m i found samples has is in
    let one = stored has.instrument.samples s (omega (arith, count, lt)) in
    record {
      sample = one.0;
      is = ap (λ (x : Option Instrument). sample_in x s) has.stored ∙ one.1;
      at = ap (λ (x : Option InstrumentIds). root_or_none (sample_ids_in x s)) has.named
          ∙ ap root_or_none (sample_at_walk p.pool found s (omega (arith, is, lt)))
          ∙ ap (λ (r : ℕ). Some r) (sample_walk_root p.pool (id_at p.pool found 30 s) ∙ sym id);
    }

pub sample_of_root : (p : Placed) (m : Module) (i s root : ℕ) → (x : SampleRead p m i s root) → IsRootOf p m root x.sample
sample_of_root p m i s root x = record { instrument = i; number = s; at = x.at; is = x.is }

valid_in : (m : Module) (i s : ℕ) (x : Sample) → IsValid m → sample_in (instrument_at m i) s ≡ Some x → IsValidSample x
valid_in m zero s x valid is = absurd (none-some x is)
valid_in m (suc i) s x valid is = valid_one (slice_get m.instruments i) refl is
  where
    valid_one : (o : Option Instrument) → slice_get m.instruments i ≡ o → sample_in o s ≡ Some x → IsValidSample x
    valid_one None e is = absurd (none-some x is)
    valid_one (Some y) e is =
        let ok = subst Rattle.ft_types.specs.Valid.IsValidInstrument (get_or_from_slice_get m.instruments i y y e)
        (valid.instruments i y (slice_get_within m.instruments i y e)) in
        subst IsValidSample (get_or_from_slice_get y.samples s x x is) (ok.samples s x (slice_get_within y.samples s x is))

pub sample_sizes_read : (p : Placed) (m : Module) (i s found samples root frames : ℕ) (head : SampleHead) → Shows p m
    → (has : HasInstrument p m i found) → samples ≡ digit 256 (word_at p.pool found 0) 0
    → (x : SampleRead p m i s root) → head ≡ head_of x.sample → frames ≡ min head.frames 3932160
    → ◌≡◌ {A = SampleSizes} (record { samples = samples; frames = frames; wide = head.wide }) (sample_sizes m i s)
sample_sizes_read p m i s found samples root frames head shows has is x read few =
    let count = samples_read p m i found samples has is in
    let low = (valid_in m i s x.sample shows.valid x.is).few_frames in
    let all : head.frames ≡ length x.sample.frames = ap (λ (h : SampleHead). h.frames) read in
    let n : frames ≡ length x.sample.frames = omega (arith, all, few, low) in
    let w : head.wide ≡ x.sample.wide = ap (λ (h : SampleHead). h.wide) read in
    let c : sample_count (instrument_at m i) ≡ length has.instrument.samples = ap sample_count has.stored in
    let f : sample_length (sample_in (instrument_at m i) s) ≡ length x.sample.frames = ap sample_length x.is in
    let v : width_in (sample_in (instrument_at m i) s) ≡ x.sample.wide = ap width_in x.is in
    rw (count, n, w, c, f, v) refl
