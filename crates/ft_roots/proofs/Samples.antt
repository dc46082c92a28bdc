-- The words of a sample, some of which are others.
use Rattle.std.proofs.Common.{◌≡◌, ◌≢◌, ℕ, ◌+◌, ◌-◌, ◌*◌, ◌/◌, ◌%◌, ◌<◌, ◌≤◌, ◌==◌, Bool, true, false, ℤ, pos, List, [], ◌++◌, take, drop, length, set, replicate, refl, ap, sym, ◌∙◌, arith, inl, inr, eqb, eq-eqb, ne_eqb}
use Rattle.std.specs.Prelude.{slice_index, min, cond, ◌*ℤ◌, if◌then◌else◌}
use Rattle.std.specs.Int.{w8, cast_unsigned}
use Rattle.std.proofs.lemmas.Bool.{cases_lt}
use Rattle.std.proofs.lemmas.List.{length-set, length-replicate, length-append, length-take, length-drop, length-map}
use Rattle.ft_types.specs.declared.sample.Sample.{Sample}
use Rattle.ft_types.specs.Valid.{IsValidSample}
use Rattle.ft_segments.specs.Packing.{bytes_word, ids_word}
use Rattle.ft_image.specs.Values.{bit, lengths_word, loop_word, tuning_word}
use Rattle.ft_edits.specs.Lists.{stretch_of, with_stretch}
use Rattle.ft_edits.specs.Samples.{new_sample, with_loop, refitted, floor_of, widened, narrowed, with_bits}
use Rattle.ft_roots.specs.RootWords.{HasRow, ZeroFrom, HasSampleWords}
use Rattle.ft_roots.proofs.Rows.{one_stays, one_put, row_stays, zeros_stay}
use Rattle.ft_roots.proofs.Places.{zero_bytes, zero_words, no_ids, three_put, three_before, three_behind}

-- what the words of a sample are made of
pub record Parts : Type 0 where
  pub lengths : ℕ
  pub loops : ℕ
  pub tuning : ℕ
  pub name : List ℕ
  pub ids : List ℕ

pub record HasParts (words : List ℕ) (parts : Parts) : Type 0 where
  pub lengths : slice_index words 0 ≡ parts.lengths
  pub loops : slice_index words 1 ≡ parts.loops
  pub tuning : slice_index words 2 ≡ parts.tuning
  pub name : HasRow words 3 3 (bytes_word parts.name)
  pub before : (k : ℕ) → 6 ≤ k → k < 16 → slice_index words k ≡ 0
  pub index_ids : slice_index words 16 ≡ ids_word parts.ids 0
  pub others : ZeroFrom words 17

abbrev pub parts_of : Sample → List ℕ → Parts
parts_of x ids = record {
  lengths = lengths_word x;
  loops = loop_word x;
  tuning = tuning_word x;
  name = x.name;
  ids = ids;
}

pub in_parts : (words : List ℕ) (x : Sample) (ids : List ℕ) → HasSampleWords words x ids → HasParts words (parts_of x ids)
in_parts words x ids has = record {
  lengths = has.lengths;
  loops = has.loops;
  tuning = has.tuning;
  name = has.name;
  before = has.before;
  index_ids = has.index_ids;
  others = has.others;
}

-- the parts are those of a sample
pub of_parts : (words : List ℕ) (parts : Parts) (x : Sample) (ids : List ℕ) → HasParts words parts
    → parts.lengths ≡ lengths_word x → parts.loops ≡ loop_word x → parts.tuning ≡ tuning_word x
    → parts.name ≡ x.name → parts.ids ≡ ids → HasSampleWords words x ids
of_parts words parts x ids has a b d n i = record {
  lengths = has.lengths ∙ a;
  loops = has.loops ∙ b;
  tuning = has.tuning ∙ d;
  name = λ k lt. has.name k lt ∙ ap (λ (bytes : List ℕ). bytes_word bytes k) n;
  before = has.before;
  index_ids = has.index_ids ∙ ap (λ (row : List ℕ). ids_word row 0) i;
  others = has.others;
}

-- ---- one word put in place of another

pub lengths_put : (words : List ℕ) (parts : Parts) (w : ℕ) → length words ≡ 256 → HasParts words parts
    → HasParts (set words 0 w) (record parts { lengths = w })
lengths_put words parts w long has = record {
  lengths = one_put words 0 w (omega (arith, long));
  loops = one_stays words 0 w 1 (λ e. absurd (omega (arith, e))) ∙ has.loops;
  tuning = one_stays words 0 w 2 (λ e. absurd (omega (arith, e))) ∙ has.tuning;
  name = row_stays words 0 w 3 3 (bytes_word parts.name) (inl (omega arith)) has.name;
  before = λ k ge lt. one_stays words 0 w k (λ e. absurd (omega (arith, e, ge))) ∙ has.before k ge lt;
  index_ids = one_stays words 0 w 16 (λ e. absurd (omega (arith, e))) ∙ has.index_ids;
  others = zeros_stay words 0 w 17 (omega arith) has.others;
}

pub loops_put : (words : List ℕ) (parts : Parts) (w : ℕ) → length words ≡ 256 → HasParts words parts
    → HasParts (set words 1 w) (record parts { loops = w })
loops_put words parts w long has = record {
  lengths = one_stays words 1 w 0 (λ e. absurd (omega (arith, e))) ∙ has.lengths;
  loops = one_put words 1 w (omega (arith, long));
  tuning = one_stays words 1 w 2 (λ e. absurd (omega (arith, e))) ∙ has.tuning;
  name = row_stays words 1 w 3 3 (bytes_word parts.name) (inl (omega arith)) has.name;
  before = λ k ge lt. one_stays words 1 w k (λ e. absurd (omega (arith, e, ge))) ∙ has.before k ge lt;
  index_ids = one_stays words 1 w 16 (λ e. absurd (omega (arith, e))) ∙ has.index_ids;
  others = zeros_stay words 1 w 17 (omega arith) has.others;
}

pub tuning_put : (words : List ℕ) (parts : Parts) (w : ℕ) → length words ≡ 256 → HasParts words parts
    → HasParts (set words 2 w) (record parts { tuning = w })
tuning_put words parts w long has = record {
  lengths = one_stays words 2 w 0 (λ e. absurd (omega (arith, e))) ∙ has.lengths;
  loops = one_stays words 2 w 1 (λ e. absurd (omega (arith, e))) ∙ has.loops;
  tuning = one_put words 2 w (omega (arith, long));
  name = row_stays words 2 w 3 3 (bytes_word parts.name) (inl (omega arith)) has.name;
  before = λ k ge lt. one_stays words 2 w k (λ e. absurd (omega (arith, e, ge))) ∙ has.before k ge lt;
  index_ids = one_stays words 2 w 16 (λ e. absurd (omega (arith, e))) ∙ has.index_ids;
  others = zeros_stay words 2 w 17 (omega arith) has.others;
}

pub ids_put : (words : List ℕ) (x : Sample) (before ids : List ℕ) (w : ℕ) → length words ≡ 256 → w ≡ ids_word ids 0
    → HasSampleWords words x before → HasSampleWords (set words 16 w) x ids
ids_put words x before ids w long is has = record {
  lengths = one_stays words 16 w 0 (λ e. absurd (omega (arith, e))) ∙ has.lengths;
  loops = one_stays words 16 w 1 (λ e. absurd (omega (arith, e))) ∙ has.loops;
  tuning = one_stays words 16 w 2 (λ e. absurd (omega (arith, e))) ∙ has.tuning;
  name = row_stays words 16 w 3 3 (bytes_word x.name) (inr (omega arith)) has.name;
  before = λ k ge lt. one_stays words 16 w k (λ e. absurd (omega (arith, e, lt))) ∙ has.before k ge lt;
  index_ids = one_put words 16 w (omega (arith, long)) ∙ is;
  others = zeros_stay words 16 w 17 (omega arith) has.others;
}

pub name_changed : (words : List ℕ) (x : Sample) (ids name : List ℕ) → length words ≡ 256 → HasSampleWords words x ids
    → HasSampleWords (set (set (set words 3 (bytes_word name 0)) 4 (bytes_word name 1)) 5 (bytes_word name 2))
    (record x { name = name }) ids
unfolding lengths_word loop_word tuning_word
name_changed words x ids name long has =
    let a = bytes_word name 0 in
    let b = bytes_word name 1 in
    let d = bytes_word name 2 in
    record {
      lengths = three_before words a b d 0 (omega arith) ∙ has.lengths;
      loops = three_before words a b d 1 (omega arith) ∙ has.loops;
      tuning = three_before words a b d 2 (omega arith) ∙ has.tuning;
      name = three_put words a b d (bytes_word name) long refl refl refl;
      before = λ k ge lt. three_behind words a b d k ge ∙ has.before k ge lt;
      index_ids = three_behind words a b d 16 (omega arith) ∙ has.index_ids;
      others = λ k ge lt. three_behind words a b d k (omega arith) ∙ has.others k ge lt;
    }

-- ---- a new sample

pub new_has : HasSampleWords (set (replicate 256 0) 1 9241386435364257792) new_sample []
unfolding lengths_word loop_word tuning_word
new_has =
    let w : ℕ = 9241386435364257792 in
    let words : List ℕ = replicate 256 0 in
    let long : length words ≡ 256 = length-replicate {A = ℕ} 256 0 in
    record {
      lengths = one_stays words 1 w 0 (λ e. absurd (omega (arith, e))) ∙ zero_words 0;
      loops = one_put words 1 w (omega (arith, long));
      tuning = one_stays words 1 w 2 (λ e. absurd (omega (arith, e))) ∙ zero_words 2;
      name = λ k lt. one_stays words 1 w (3 + k) (λ e. absurd (omega (arith, e))) ∙ zero_words (3 + k) ∙ sym (zero_bytes 22 k);
      before = λ k ge lt. one_stays words 1 w k (λ e. absurd (omega (arith, e, ge))) ∙ zero_words k;
      index_ids = one_stays words 1 w 16 (λ e. absurd (omega (arith, e))) ∙ zero_words 16 ∙ sym (no_ids 0);
      others = λ k ge lt. one_stays words 1 w k (λ e. absurd (omega (arith, e, ge))) ∙ zero_words k;
    }

-- ---- what the words say

bit_low : (wide : Bool) → bit wide ≤ 1
bit_low true = omega arith
bit_low false = omega arith

flag_back : (wide : Bool) (n : ℕ) → n ≡ bit wide → eqb n 1 ≡ wide
flag_back true n is = ap (λ (k : ℕ). eqb k 1) is
flag_back false n is = ap (λ (k : ℕ). eqb k 1) is

pub loop_low : (x : Sample) → IsValidSample x → (x.loop_start ≤ 3932160) × (x.loop_len ≤ 3932160)
loop_low x valid =
    let few = valid.few_frames in
    elim (cases_lt x.loop_kind 1) [
      | inl lt ↦
          let none : x.loop_kind ≡ 0 = omega arith in
          let s = valid.looping.none_start none in
          let l = valid.looping.none_len none in
          (omega arith, omega arith)
      | inr le ↦ let w = valid.looping.within le in (omega arith, omega arith)
    ]

pub lengths_read : (x : Sample) (word : ℕ) → IsValidSample x → word ≡ lengths_word x
    → (word % 4294967296 ≡ length x.frames) × (word / 4294967296 ≡ x.loop_start)
unfolding lengths_word
lengths_read x word valid is = let few = valid.few_frames in (omega arith, omega arith)

pub loops_read : (x : Sample) (word : ℕ) → IsValidSample x → word ≡ loop_word x
    → (word % 4294967296 ≡ x.loop_len)
    × (word / 4294967296 % 256 ≡ x.loop_kind)
    × (eqb (word / 1099511627776 % 256) 1 ≡ x.wide)
    × (word / 281474976710656 ≡ x.volume + 256 * x.panning)
    × (word % 281474976710656 ≡ x.loop_len + 4294967296 * (x.loop_kind + 256 * bit x.wide))
unfolding loop_word
loops_read x word valid is =
    let low = (loop_low x valid).1 in
    let k = valid.looping.kind in
    let b = bit_low x.wide in
    (omega arith, omega arith, flag_back x.wide (word / 1099511627776 % 256) (omega arith), omega arith, omega arith)

-- ---- numbers put in place of others

abbrev pub with_numbers : Sample → Bool → ℕ → ℕ → ℕ → List ℤ → Sample
with_numbers x wide kind start len frames =
    record x { wide = wide; loop_kind = kind; loop_start = start; loop_len = len; frames = frames }

pub numbers_put : (words : List ℕ) (x : Sample) (ids : List ℕ) (wide : Bool) (kind start len : ℕ) (frames : List ℤ) (count flag : ℕ)
    → length words ≡ 256 → IsValidSample x → length frames ≡ count → flag ≡ bit wide → HasSampleWords words x ids
    → HasSampleWords (set (set words 0 (count + 4294967296 * start)) 1
    (len + 4294967296 * (kind + 256 * flag + 65536 * (slice_index words 1 / 281474976710656))))
    (with_numbers x wide kind start len frames) ids
unfolding lengths_word loop_word tuning_word
numbers_put words x ids wide kind start len frames count flag long valid many is has =
    let y = with_numbers x wide kind start len frames in
    let a = count + 4294967296 * start in
    let sound = (loops_read x (slice_index words 1) valid has.loops).3 in
    let b = len + 4294967296 * (kind + 256 * flag + 65536 * (slice_index words 1 / 281474976710656)) in
    let one = lengths_put words (parts_of x ids) a long (in_parts words x ids has) in
    let p : Parts = record (parts_of x ids) { lengths = a } in
    let two = loops_put (set words 0 a) p b (length-set words 0 a ∙ long) one in
    let first : a ≡ lengths_word y = omega (arith, many) in
    let second : b ≡ loop_word y = omega (arith, is, sound) in
    of_parts (set (set words 0 a) 1 b) (record p { loops = b }) y ids two first second refl refl refl

pub sound_put : (words : List ℕ) (x : Sample) (ids : List ℕ) (volume panning : ℕ) (finetune relative : ℤ) (fine rel : ℕ)
    → length words ≡ 256 → IsValidSample x → fine ≡ cast_unsigned w8 finetune → rel ≡ cast_unsigned w8 relative → HasSampleWords words x ids
    → HasSampleWords (set (set words 1 (slice_index words 1 % 281474976710656 + 281474976710656 * (volume + 256 * panning))) 2
    (fine + 256 * rel))
    (record x { volume = volume; finetune = finetune; relative = relative; panning = panning }) ids
unfolding lengths_word loop_word tuning_word
sound_put words x ids volume panning finetune relative fine rel long valid f r has =
    let y : Sample = record x { volume = volume; finetune = finetune; relative = relative; panning = panning } in
    let a = slice_index words 1 % 281474976710656 + 281474976710656 * (volume + 256 * panning) in
    let kept = (loops_read x (slice_index words 1) valid has.loops).4 in
    let b = fine + 256 * rel in
    let one = loops_put words (parts_of x ids) a long (in_parts words x ids has) in
    let p : Parts = record (parts_of x ids) { loops = a } in
    let two = tuning_put (set words 1 a) p b (length-set words 1 a ∙ long) one in
    let first : a ≡ loop_word y = omega (arith, kept) in
    let second : b ≡ tuning_word y = omega (arith, f, r) in
    of_parts (set (set words 1 a) 2 b) (record p { tuning = b }) y ids two refl first second refl refl

-- ---- the loop brought into the frames

pub refitted_none : (s : Sample) (start len : ℕ) → start ≡ min (length s.frames) s.loop_start
    → len ≡ min (length s.frames - start) s.loop_len → len ≡ 0 → refitted s ≡ with_loop 0 0 0 s
refitted_none s start len a b none =
    let n : ℕ = min (length s.frames - min (length s.frames) s.loop_start) s.loop_len in
    let e : n ≡ 0 = ap (λ (k : ℕ). min (length s.frames - k) s.loop_len) (sym a) ∙ sym b ∙ none in
    rw (eq-eqb n 0 e) refl

pub refitted_some : (s : Sample) (start len : ℕ) → start ≡ min (length s.frames) s.loop_start
    → len ≡ min (length s.frames - start) s.loop_len → len ≢ 0 → refitted s ≡ with_loop s.loop_kind start len s
refitted_some s start len a b some =
    let n : ℕ = min (length s.frames - min (length s.frames) s.loop_start) s.loop_len in
    let e : len ≡ n = b ∙ ap (λ (k : ℕ). min (length s.frames - k) s.loop_len) a in
    rw (a, e, ne_eqb n 0 (λ f. some (e ∙ f))) refl

-- a loop within as many frames
pub refitted_same : (x : Sample) (wide : Bool) (new : List ℤ) → IsValidSample x → length new ≡ length x.frames
    → refitted (record x { wide = wide; frames = new }) ≡ record x { wide = wide; frames = new }
refitted_same x wide new valid same =
    let s : Sample = record x { wide = wide; frames = new } in
    elim (cases_lt x.loop_kind 1) [
      | inl lt ↦
          let none : x.loop_kind ≡ 0 = omega arith in
          let a : x.loop_start ≡ 0 = valid.looping.none_start none in
          let b : x.loop_len ≡ 0 = valid.looping.none_len none in
          let start : ℕ = min (length new) x.loop_start in
          refitted_none s start (min (length new - start) x.loop_len) refl refl (omega arith)
          ∙ rw (none, a, b) refl
      | inr le ↦
          let within : x.loop_start + x.loop_len ≤ length x.frames = valid.looping.within le in
          let some : 1 ≤ x.loop_len = valid.looping.some_len le in
          refitted_some s x.loop_start x.loop_len (omega arith) (omega arith) (omega arith)
          ∙ rw (ne_eqb x.loop_kind 0 (omega arith)) refl
    ]

-- ---- other frames

pub frames_same : (words : List ℕ) (x : Sample) (ids : List ℕ) (new : List ℤ) → length new ≡ length x.frames → HasSampleWords words x ids
    → HasSampleWords words (record x { frames = new }) ids
unfolding lengths_word loop_word tuning_word
frames_same words x ids new same has = record {
  lengths = rw same has.lengths;
  loops = has.loops;
  tuning = has.tuning;
  name = has.name;
  before = has.before;
  index_ids = has.index_ids;
  others = has.others;
}

refitted_when : (b : Bool) (x y : Sample) (frames : List ℤ) → x.frames ≡ frames → y.frames ≡ frames → (cond b x y).frames ≡ frames
refitted_when true x y frames a b = a
refitted_when false x y frames a b = b

pub refitted_frames : (s : Sample) → (refitted s).frames ≡ s.frames
refitted_frames s = refitted_when _ _ _ s.frames refl refl

pub stretch_long : (from to : ℕ) (change : List ℤ → List ℤ) (xs : List ℤ)
    → ((part : List ℤ) → length (change part) ≡ length part) → from ≤ to
    → length (with_stretch from to change xs) ≡ length xs
stretch_long from to change xs keeps le =
    let part = stretch_of from to xs in
    let a = length-append (take from xs) (change part ++ drop to xs) in
    let b = length-append (change part) (drop to xs) in
    let d = keeps part in
    let e = length-take from xs in
    let f = length-take (to - from) (drop from xs) in
    let g = length-drop from xs in
    let h = length-drop to xs in
    omega (arith, a, b, d, e, f, g, h)

-- frames of 8 or 16 bits: the width that is asked for
abbrev wide_as : Sample → Bool → Sample
wide_as x wide = record x { wide = wide }

bits_width : (x : Sample) (b wide : Bool) → x.wide ≡ wide
    → (if b then (if wide then x else widened x) else (if wide then narrowed x else x))
    ≡ record x { wide = b; frames = (if b then (if wide then x else widened x) else (if wide then narrowed x else x)).frames }
bits_width x true true is = ap (λ (w : Bool). wide_as x w) is
bits_width x true false is = refl
bits_width x false true is = refl
bits_width x false false is = ap (λ (w : Bool). wide_as x w) is

bits_long : (x : Sample) (b wide : Bool)
    → length (if b then (if wide then x else widened x) else (if wide then narrowed x else x)).frames ≡ length x.frames
bits_long x true true = refl
bits_long x true false = length-map x.frames (λ frame. pos 256 *ℤ frame)
bits_long x false true = length-map x.frames (λ frame. floor_of frame 256)
bits_long x false false = refl

pub bits_done : (x : Sample) (b : ℕ) → IsValidSample x
    → refitted (record x { wide = b == 16; frames = (with_bits b x).frames }) ≡ with_bits b x
bits_done x b valid =
    refitted_same x (b == 16) (with_bits b x).frames valid (bits_long x (b == 16) x.wide)
    ∙ sym (bits_width x (b == 16) x.wide refl)

pub bits_count : (x : Sample) (b : ℕ) → length (with_bits b x).frames ≡ length x.frames
bits_count x b = bits_long x (b == 16) x.wide
