-- What readers find in the words of a sample.
use Rattle.std.proofs.Common.{◌≡◌, ℕ, zero, suc, ◌+◌, ◌-◌, ◌*◌, ◌/◌, ◌%◌, ◌<◌, ◌≤◌, ℤ, pos, Bool, true, false, eqb, Option, Some, None, get_or, length, refl, sym, ap, subst, ◌∙◌, arith, inl, inr}
use Rattle.std.specs.Prelude.{FitsSigned, slice_index}
use Rattle.std.specs.List.{slice_get}
use Rattle.std.specs.Int.{Width, w8, w16, cast_unsigned, cast_signed}
use Rattle.std.proofs.lemmas.Int.{ints, to_z-of_z}
use Rattle.std.proofs.Math.Facts.{Fits-of_z}
use Rattle.std.proofs.lemmas.Bool.{cases_lt}
use Rattle.std.proofs.lemmas.List.{get_or_past}
use Rattle.std.proofs.lemmas.Option.{slice_get_within, get_or_from_slice_get, none-some, same_Some}
use Rattle.ft_types.specs.declared.module.Module.{Module}
use Rattle.ft_types.specs.declared.instrument.Instrument.{Instrument}
use Rattle.ft_types.specs.declared.sample.Sample.{Sample}
use Rattle.ft_types.specs.declared.voice.SampleHead.{SampleHead}
use Rattle.ft_types.specs.Blocks.{pieces_of, bodies_of}
use Rattle.ft_types.specs.Valid.{IsValidInstrument, IsValidSample, width_of}
use Rattle.ft_types.specs.Views.{sample_in, head_of}
use Rattle.ft_segments.specs.Packing.{digit, word_at, id_at}
use Rattle.ft_segments.specs.Walk.{InstrumentIds, Placed, IsOf, sample_uses, sample_walk, instrument_walk, index_walk, bodies_in, bodies_of_index, samples_in}
use Rattle.ft_image.specs.Values.{lengths_word, loop_word, tuning_word, frames_word}
use Rattle.ft_image.specs.Shown.{Shows, ShowsSample}
use Rattle.ft_image.specs.Read.{IsRootOf, sample_root_at, sample_at, sample_ids_in, root_or_none}
use Rattle.ft_image.proofs.Lists.{below_at}
use Rattle.ft_image.proofs.Packed.{digit-packed}
use Rattle.ft_image.proofs.Walked.{of_instrument, of_sample, sample_at_walk, sample_walk_root, sample_root_of, of_index, index_root_of, index_body_of, index_at_walk}
use Rattle.ft_image.proofs.Found.{bit-le, flag}
use Rattle.ft_image.proofs.Instruments.{has_instrument, samples_read}

-- ---- the sample of a root

-- a sample of the shown song, whose segments are the version's
pub record Found (p : Placed) (root : ℕ) (x : Sample) : Type 0 where
  pub shown : ShowsSample p.pool x (sample_walk p.pool root)
  pub valid : IsValidSample x
  pub within : (s : ℕ) → 1 ≤ sample_uses s (sample_walk p.pool root) → IsOf p s

in_some : (o : Option Instrument) (n : ℕ) (x : Sample) → sample_in o n ≡ Some x
    → (y : Instrument) × (o ≡ Some y) × (slice_get y.samples n ≡ Some x)
in_some None n x is = absurd (none-some x is)
in_some (Some y) n x is = (y, refl, is)

found : (p : Placed) (m : Module) (number n root : ℕ) (x : Sample) → Shows p m → sample_root_at p number n ≡ Some root
    → sample_at m number n ≡ Some x → Found p root x
found p m zero n root x shows at is = absurd (none-some root at)
found p m (suc k) n root x shows at is =
    let y = in_some (slice_get m.instruments k) n x is in
    let lt = slice_get_within m.instruments k y.0 y.1 in
    let head = id_at p.pool p.root 104 (suc k - 1) in
    let has = has_instrument p m (suc k) p.root head shows refl (omega arith) (omega arith) refl in
    let ids = instrument_walk p.pool head in
    let shown = shows.stands.instruments.each k y.0 ids y.1 has.named in
    let same : has.instrument ≡ y.0 = same_Some has.instrument y.0 (sym has.stored ∙ y.1) in
    let n_lt = slice_get_within y.0.samples n x y.2 in
    let count : samples_in p.pool head ≡ length y.0.samples
    = samples_read p m (suc k) head (word_at p.pool head 0) shows has refl ∙ ap (λ (i : Instrument). length i.samples) same in
    let id = id_at p.pool head 30 n in
    let named = sample_at_walk p.pool head n (omega arith) in
    let here : id ≡ root
    = same_Some id root
    (sym (ap (λ (all : Option InstrumentIds). root_or_none (sample_ids_in all n)) has.named ∙ ap root_or_none named
    ∙ ap (λ (r : ℕ). Some r) (sample_walk_root p.pool id))
    ∙ at) in
    let valid : IsValidInstrument y.0
    = subst IsValidInstrument (get_or_from_slice_get m.instruments k y.0 y.0 y.1) (shows.valid.instruments k y.0 lt) in
    subst (λ (r : ℕ). Found p r x) here (record {
      shown = shown.each.each n x (sample_walk p.pool id) y.2 named;
      valid = subst IsValidSample (get_or_from_slice_get y.0.samples n x x y.2) (valid.samples n x n_lt);
      within = λ s one. of_instrument p k s ids has.named (of_sample s n ids (sample_walk p.pool id) named one);
    })

pub sample_found : (p : Placed) (m : Module) (root : ℕ) (x : Sample) → Shows p m → IsRootOf p m root x → Found p root x
sample_found p m root x shows of = found p m of.instrument of.number root x shows of.at of.is

pub root_used : (p : Placed) (root : ℕ) → 1 ≤ sample_uses root (sample_walk p.pool root)
root_used p root = sample_root_of root (sample_walk p.pool root) (sample_walk_root p.pool root)

-- ---- the head

pub signed_back : (w : Width) (z r : ℤ) (n : ℕ) → FitsSigned w z → n ≡ cast_unsigned w z → r ≡ cast_signed w n
    → cast_signed w (cast_unsigned w r) ≡ z
signed_back w z r n fits is made =
    let e : r ≡ z = made ∙ ap (λ (k : ℕ). cast_signed w k) is ∙ to_z-of_z w z fits in
    ap (λ (k : ℤ). cast_signed w (cast_unsigned w k)) e ∙ to_z-of_z w z fits

loop_low : (x : Sample) → IsValidSample x → (x.loop_start ≤ 3932160) × (x.loop_len ≤ 3932160)
loop_low x valid =
    let few = valid.few_frames in
    elim (cases_lt x.loop_kind 1) [
      | inl lt ↦
          let none : x.loop_kind ≡ 0 = omega arith in
          let s = valid.looping.none_start none in
          let l = valid.looping.none_len none in
          (omega arith, omega arith)
      | inr le ↦ let w = valid.looping.within le in (omega arith, omega arith)
    ]

pub lengths_back : (x : Sample) (word : ℕ) → IsValidSample x → word ≡ lengths_word x
    → (word % 4294967296 ≡ length x.frames) × (word / 4294967296 % 4294967296 ≡ x.loop_start)
unfolding lengths_word
lengths_back x word valid is =
    let few = valid.few_frames in
    let low = loop_low x valid in
    (omega (arith, low.0), omega (arith, low.0))

loops_back : (x : Sample) (word : ℕ) → IsValidSample x → word ≡ loop_word x
    → (word % 4294967296 ≡ x.loop_len)
    × (word / 4294967296 % 256 ≡ x.loop_kind)
    × (eqb (word / 1099511627776 % 256) 1 ≡ x.wide)
    × (word / 281474976710656 % 256 ≡ x.volume)
    × (word / 72057594037927936 % 256 ≡ x.panning)
unfolding loop_word
loops_back x word valid is =
    let low = (loop_low x valid).1 in
    let k = valid.looping.kind in
    let v = valid.volume in
    let p = valid.panning in
    let b = bit-le x.wide in
    (omega arith, omega arith, flag x.wide (word / 1099511627776 % 256) (omega arith), omega arith, omega arith)

tuning_back : (x : Sample) (word : ℕ) → IsValidSample x → word ≡ tuning_word x
    → (digit 256 word 0 ≡ cast_unsigned w8 x.finetune) × (digit 256 word 1 ≡ cast_unsigned w8 x.relative)
unfolding tuning_word
tuning_back x word valid is =
    let a : cast_unsigned w8 x.finetune < 256 = (Fits-of_z {w = w8} {z = x.finetune} valid.finetune).fits in
    let b : cast_unsigned w8 x.relative < 256 = (Fits-of_z {w = w8} {z = x.relative} valid.relative).fits in
    (omega arith, omega arith)

pub head_read : (x : Sample) (lengths loops tuning : ℕ) (finetune relative : ℤ) → IsValidSample x → lengths ≡ lengths_word x
    → loops ≡ loop_word x → tuning ≡ tuning_word x
    → finetune ≡ cast_signed w8 (digit 256 tuning 0) → relative ≡ cast_signed w8 (digit 256 tuning 1)
    → ◌≡◌ {A = SampleHead} (record {
      frames = lengths % 4294967296;
      wide = eqb (loops / 1099511627776 % 256) 1;
      loop_kind = loops / 4294967296 % 256;
      loop_start = lengths / 4294967296 % 4294967296;
      loop_len = loops % 4294967296;
      volume = loops / 281474976710656 % 256;
      panning = loops / 72057594037927936 % 256;
      finetune = cast_signed w8 (cast_unsigned w8 finetune);
      relative = cast_signed w8 (cast_unsigned w8 relative);
    }) (head_of x)
head_read x lengths loops tuning finetune relative valid l o t f r =
    let a = lengths_back x lengths valid l in
    let b = loops_back x loops valid o in
    let d = tuning_back x tuning valid t in
    let fine = signed_back w8 x.finetune finetune (digit 256 tuning 0) valid.finetune d.0 f in
    let rel = signed_back w8 x.relative relative (digit 256 tuning 1) valid.relative d.1 r in
    rw (a.0, a.1, b.0, b.1, b.2, b.3, b.4, fine, rel) refl

-- ---- frames

wide_fits : (wide : Bool) (z : ℤ) → FitsSigned (width_of wide) z → FitsSigned w16 z
wide_fits true z fits = fits
wide_fits false z fits = search (arith, ints)

zero_fits : FitsSigned w16 (pos 0)
zero_fits = search (arith, ints)

pub frame_fits : (x : Sample) (n : ℕ) → IsValidSample x → FitsSigned w16 (get_or x.frames n (pos 0))
frame_fits x n valid =
    elim (cases_lt n (length x.frames)) [
      | inl lt ↦ wide_fits x.wide (get_or x.frames n (pos 0)) (valid.frames n (pos 0) lt)
      | inr le ↦ subst (FitsSigned w16) (sym (get_or_past x.frames n (pos 0) le)) zero_fits
    ]

-- a frame is read from its word
pub frame_read : (x : Sample) (word k place : ℕ) → IsValidSample x → word ≡ frames_word x.frames k → k ≡ place / 4
    → digit 65536 word (place % 4) ≡ cast_unsigned w16 (get_or x.frames place (pos 0))
unfolding frames_word
frame_read x word k place valid is at =
    let same : k * 4 + place % 4 ≡ place = omega arith in
    ap (λ (w : ℕ). digit 65536 w (place % 4)) is
    ∙ digit-packed 65536 4 (λ i. cast_unsigned w16 (get_or x.frames (k * 4 + i) (pos 0))) (place % 4)
    (λ i. (Fits-of_z {w = w16} {z = get_or x.frames (k * 4 + i) (pos 0)} (frame_fits x (k * 4 + i) valid)).fits) (omega arith)
    ∙ ap (λ (n : ℕ). cast_unsigned w16 (get_or x.frames n (pos 0))) same

frames_known : (p : Placed) (x : Sample) (root : ℕ) → Found p root x → bodies_in p.pool root ≡ bodies_of x
frames_known p x root sample =
    let word : word_at p.pool root 0 ≡ lengths_word x
    = ap (λ (r : ℕ). word_at p.pool r 0) (sym (sample_walk_root p.pool root)) ∙ sample.shown.lengths in
    ap (λ (n : ℕ). pieces_of n 1024) (lengths_back x (word_at p.pool root 0) sample.valid word).0

-- the index that names the body of a frame
index_named : (p : Placed) (x : Sample) (root place index : ℕ) → Found p root x → place < length x.frames
    → index ≡ id_at p.pool root 16 (place / 1024 / 1024)
    → slice_get (sample_walk p.pool root).indexes (place / 1024 / 1024)
    ≡ Some (index_walk p.pool (bodies_of_index (bodies_in p.pool root) (place / 1024 / 1024)) index)
index_named p x root place index sample lt at =
    let count = frames_known p x root sample in
    let i = place / 1024 / 1024 in
    index_at_walk p.pool root i (omega arith)
    ∙ ap (λ (r : ℕ). Some (index_walk p.pool (bodies_of_index (bodies_in p.pool root) i) r)) (sym at)

pub index_used : (p : Placed) (x : Sample) (root place index : ℕ) → Found p root x → place < length x.frames
    → index ≡ id_at p.pool root 16 (place / 1024 / 1024) → 1 ≤ sample_uses index (sample_walk p.pool root)
index_used p x root place index sample lt at =
    let one = index_walk p.pool (bodies_of_index (bodies_in p.pool root) (place / 1024 / 1024)) index in
    of_index index (place / 1024 / 1024) (sample_walk p.pool root) one (index_named p x root place index sample lt at)
    (index_root_of index one refl)

-- the body of a frame, and its word there
pub body_found : (p : Placed) (x : Sample) (root place index body : ℕ) → Found p root x → place < length x.frames
    → index ≡ id_at p.pool root 16 (place / 1024 / 1024) → body ≡ id_at p.pool index 0 (place / 1024 % 1024)
    → (1 ≤ sample_uses body (sample_walk p.pool root))
    × (word_at p.pool body (place / 4 % 256) ≡ frames_word x.frames (place / 4))
body_found p x root place index body sample lt at in_index =
    let i = place / 1024 / 1024 in
    let b = place / 1024 % 1024 in
    let ids = sample_walk p.pool root in
    let count = frames_known p x root sample in
    let one = index_walk p.pool (bodies_of_index (bodies_in p.pool root) i) index in
    let named = index_named p x root place index sample lt at in
    let shown = sample.shown.each i one named in
    let b_lt : b < bodies_of_index (bodies_in p.pool root) i = omega arith in
    let in_bodies : slice_get one.bodies b ≡ Some body
    = below_at (bodies_of_index (bodies_in p.pool root) i) (λ j. id_at p.pool index 0 j) b b_lt
    ∙ ap (λ (s : ℕ). Some s) (sym in_index) in
    let b_in = slice_get_within one.bodies b body in_bodies in
    let is : slice_index one.bodies b ≡ body = get_or_from_slice_get one.bodies b body 0 in_bodies in
    let whole : (1024 * i + b) * 256 + place / 4 % 256 ≡ place / 4 = omega arith in (
      of_index body i ids one named (index_body_of body b one in_bodies),
      ap (λ (s : ℕ). word_at p.pool s (place / 4 % 256)) (sym is)
          ∙ shown.frames b (place / 4 % 256) b_in (omega arith)
          ∙ ap (λ (k : ℕ). frames_word x.frames k) whole,
    )
