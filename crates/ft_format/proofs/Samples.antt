-- A sample as it is written.
use Rattle.std.proofs.Common.{◌≡◌, ℕ, ◌+◌, ◌-◌, ◌*◌, ◌/◌, ◌%◌, ◌<◌, ◌≤◌, Bool, true, false, cond, List, length, ℤ, All, refl, sym, arith}
use Rattle.std.specs.Prelude.{nat_eq, ◌==◌, ◌||◌, min, FitsSigned}
use Rattle.std.specs.Int.{w8, cast_signed, cast_unsigned}
use Rattle.std.proofs.lemmas.Int.{to_z-of_z}
use Rattle.std.proofs.lemmas.Bool.Decides.{nat_tests}
use Rattle.ft_types.specs.declared.sample.Sample.{Sample}
use Rattle.ft_types.specs.Valid.{IsValidSample, IsValidLoop, width_of}
use Rattle.ft_format.specs.Canon.{frame_size, sample_data, sample_header_of, raw_sample_of}
use Rattle.ft_format.specs.Sample.{RawSampleFits, sample_header_text, is_wide, frame_count, loop_kind_of, loop_start_of, loop_len_of, narrow_frames, wide_frames, sample_from}
use Rattle.ft_format.proofs.Numbers.{least}
use Rattle.ft_format.proofs.Bytes.{bytes_of, field_of}
use Rattle.ft_format.proofs.Frames.{narrow_unsigned, narrow_data, wide_data, narrow_back, wide_back, narrow_data_length, wide_data_length, narrow_data_bytes, wide_data_bytes}

-- ---- the data

abbrev size_of : Bool → ℕ
size_of wide = cond wide 2 1

-- the data of frames of this width
record Written (wide : Bool) (frames : List ℤ) (steps : List ℕ) : Type 0 where
  len : length steps ≡ size_of wide * length frames
  bytes : All (λ byte. byte < 256) steps
  means : cond wide (wide_frames steps) (narrow_frames steps) ≡ frames

written : (wide : Bool) (frames : List ℤ) → All (FitsSigned (width_of wide)) frames
    → Written wide frames (cond wide (wide_data frames) (narrow_data frames))
written true frames all =
    record { len = wide_data_length frames; bytes = wide_data_bytes frames; means = wide_back frames all }
written false frames all =
    record {
      len = omega (arith, narrow_data_length frames);
      bytes = narrow_data_bytes frames;
      means = narrow_back frames all;
    }

written_sample : (sample : Sample) → IsValidSample sample → Written sample.wide sample.frames (sample_data sample)
unfolding sample_data
written_sample sample v = written sample.wide sample.frames v.frames

-- ---- the type, and numbers of frames

-- what the bits of a type say
record Kind (wide : Bool) (kind type : ℕ) : Type 0 where
  small : type < 256
  mono : (type / 32 % 2 == 1) ≡ false
  bits : (type / 16 % 2 == 1) ≡ wide
  loop : min 2 (type % 4) ≡ kind

is_not : (n : ℕ) → n ≡ 0 → (n == 1) ≡ false
is_not n e = rw e refl

is_one : (n : ℕ) → n ≡ 1 → (n == 1) ≡ true
is_one n e = rw e refl

kind_of : (wide : Bool) (kind : ℕ) → kind ≤ 2 → Kind wide kind (kind + cond wide 16 0)
kind_of true kind le =
    record {
      small = omega (arith, le);
      mono = is_not _ (omega (arith, le));
      bits = is_one _ (omega (arith, le));
      loop = omega (arith, le);
    }
kind_of false kind le =
    record {
      small = omega (arith, le);
      mono = is_not _ (omega (arith, le));
      bits = is_not _ (omega (arith, le));
      loop = omega (arith, le);
    }

halved : (wide : Bool) (n : ℕ) → cond wide ((size_of wide * n) / 2) (size_of wide * n) ≡ n
halved true n = omega arith
halved false n = omega arith

few_bytes : (wide : Bool) (n : ℕ) → n ≤ 3932160 → size_of wide * n < 256 * 256 * 256 * 256
few_bytes true n le = omega (arith, le)
few_bytes false n le = omega (arith, le)

-- ---- the loop

-- a loop within that many frames, or none
record Loop (frames kind start len : ℕ) : Type 0 where
  in_start : start ≤ frames
  in_len : start + len ≤ frames
  none_len : kind ≡ 0 → len ≡ 0
  none_start : kind ≡ 0 → start ≡ 0
  some : 1 ≤ kind → 1 ≤ len

loop_by : (none : Bool) (frames kind start len : ℕ) → nat_eq kind 0 ≡ none → (kind ≡ 0 → start ≡ 0)
    → (kind ≡ 0 → len ≡ 0) → (1 ≤ kind → 1 ≤ len) → (1 ≤ kind → start + len ≤ frames) → Loop frames kind start len
loop_by true frames kind start len e z y s w =
    let zero : kind ≡ 0 = grind (arith, nat_tests) in
    record {
      in_start = omega (arith, z zero);
      in_len = omega (arith, z zero, y zero);
      none_len = y;
      none_start = z;
      some = s;
    }
loop_by false frames kind start len e z y s w =
    let more : 1 ≤ kind = grind (arith, nat_tests) in
    record { in_start = omega (arith, w more); in_len = w more; none_len = y; none_start = z; some = s }

loop_of : (sample : Sample) → IsValidLoop sample.loop_kind sample.loop_start sample.loop_len (length sample.frames)
    → Loop (length sample.frames) sample.loop_kind sample.loop_start sample.loop_len
loop_of sample v =
    loop_by (nat_eq sample.loop_kind 0) (length sample.frames) sample.loop_kind sample.loop_start sample.loop_len refl
    v.none_start v.none_len v.some_len v.within

-- what the test leaves of a loop's numbers are those of a sample
record Kept (none : Bool) (read_kind read_start read_len kind start len : ℕ) : Type 0 where
  same_kind : cond none 0 read_kind ≡ kind
  same_start : cond none 0 read_start ≡ start
  same_len : cond none 0 read_len ≡ len

no_kind_by : (b : Bool) (kind len : ℕ) → nat_eq kind 0 ≡ b → (nat_eq kind 0 || nat_eq len 0) ≡ true
    → (1 ≤ kind → 1 ≤ len) → kind ≡ 0
no_kind_by true kind len f e some = grind (arith, nat_tests)
no_kind_by false kind len f e some =
    let more : 1 ≤ kind = grind (arith, nat_tests) in
    let n = some more in
    absurd (grind (arith, nat_tests))

no_kind : (kind len : ℕ) → (nat_eq kind 0 || nat_eq len 0) ≡ true → (1 ≤ kind → 1 ≤ len) → kind ≡ 0
no_kind kind len e some = no_kind_by (nat_eq kind 0) kind len refl e some

kept_by : (none : Bool) (frames kind start len : ℕ) → (nat_eq kind 0 || nat_eq len 0) ≡ none
    → Loop frames kind start len → Kept none kind start len kind start len
kept_by true frames kind start len e l =
    let zero : kind ≡ 0 = no_kind kind len e l.some in
    record { same_kind = sym zero; same_start = sym (l.none_start zero); same_len = sym (l.none_len zero) }
kept_by false frames kind start len e l = record { same_kind = refl; same_start = refl; same_len = refl }

kept : (frames read_kind read_start read_len kind start len : ℕ) → read_kind ≡ kind → read_start ≡ start
    → read_len ≡ len → Loop frames kind start len
    → Kept (nat_eq read_kind 0 || nat_eq read_len 0) read_kind read_start read_len kind start len
kept frames read_kind read_start read_len kind start len e f g l =
    let k = kept_by (nat_eq kind 0 || nat_eq len 0) frames kind start len refl l in
    rw (e, f, g) (record { same_kind = k.same_kind; same_start = k.same_start; same_len = k.same_len })

-- ---- a sample

abbrev make : List ℕ → ℕ → ℤ → ℤ → ℕ → Bool → ℕ → ℕ → ℕ → List ℤ → Sample
make name volume finetune relative panning wide kind start len frames = record {
  name = name;
  volume = volume;
  finetune = finetune;
  relative = relative;
  panning = panning;
  wide = wide;
  loop_kind = kind;
  loop_start = start;
  loop_len = len;
  frames = frames;
}

same_sample :
    (sample : Sample) (volume : ℕ) (finetune relative : ℤ) (wide : Bool) (kind start len : ℕ) (frames : List ℤ)
    → volume ≡ sample.volume → finetune ≡ sample.finetune → relative ≡ sample.relative → wide ≡ sample.wide
    → kind ≡ sample.loop_kind → start ≡ sample.loop_start → len ≡ sample.loop_len → frames ≡ sample.frames
    → make sample.name volume finetune relative sample.panning wide kind start len frames ≡ sample
same_sample sample volume finetune relative wide kind start len frames z a b c d e f g =
    rw (z, a, b, c, d, e, f, g) refl

-- numbers of bytes as numbers of frames again
in_frames_again : (b wide : Bool) (n : ℕ) → b ≡ wide → cond b ((size_of wide * n) / 2) (size_of wide * n) ≡ n
in_frames_again b wide n e = rw e (halved wide n)

start_again : (frames start read_frames read_start : ℕ) → read_frames ≡ frames → read_start ≡ start → start ≤ frames
    → min read_frames read_start ≡ start
start_again frames start read_frames read_start e f le = omega (arith, e, f, le)

len_again : (frames start len read_frames read_start read_len : ℕ) → read_frames ≡ frames → read_start ≡ start
    → read_len ≡ len → start + len ≤ frames
    → min (read_frames - read_start) read_len ≡ len
len_again frames start len read_frames read_start read_len e f g le = omega (arith, e, f, g, le)

frames_again : (b wide : Bool) (steps : List ℕ) (frames : List ℤ) → b ≡ wide
    → cond wide (wide_frames steps) (narrow_frames steps) ≡ frames
    → cond b (wide_frames steps) (narrow_frames steps) ≡ frames
frames_again b wide steps frames e f = rw e f

pub sample_fits : (sample : Sample) → IsValidSample sample → RawSampleFits (raw_sample_of sample)
sample_fits sample v =
    let k = kind_of sample.wide sample.loop_kind v.looping.kind in
    let l = loop_of sample v.looping in
    let w = written_sample sample v in
    let start : sample.loop_start ≤ 3932160 = omega (arith, l.in_start, v.few_frames) in
    let len : sample.loop_len ≤ 3932160 = omega (arith, l.in_len, v.few_frames) in
    record {
      header = record {
        length = few_bytes sample.wide (length sample.frames) v.few_frames;
        loop_start = few_bytes sample.wide sample.loop_start start;
        loop_len = few_bytes sample.wide sample.loop_len len;
        volume = omega (arith, v.volume);
        finetune = omega (arith, narrow_unsigned sample.finetune v.finetune);
        kind = omega (arith, k.small);
        panning = omega (arith, v.panning);
        relative = omega (arith, narrow_unsigned sample.relative v.relative);
        skipped = omega arith;
        name = field_of 22 sample.name v.name;
        mono = k.mono;
        few_frames =
            omega (
              arith,
              in_frames_again (is_wide (sample_header_of sample)) sample.wide (length sample.frames) k.bits,
              v.few_frames,
            );
      };
      steps = (w.len, bytes_of (sample_data sample) w.bytes);
    }

pub sample_means : (sample : Sample) → IsValidSample sample
    → sample_from (sample_header_of sample) (sample_data sample) ≡ sample
unfolding sample_from
sample_means sample v =
    let h = sample_header_of sample in
    let k = kind_of sample.wide sample.loop_kind v.looping.kind in
    let l = loop_of sample v.looping in
    let w = written_sample sample v in
    let n = in_frames_again (is_wide h) sample.wide (length sample.frames) k.bits in
    let s =
    start_again (length sample.frames) sample.loop_start (frame_count h) _ n
    (in_frames_again (is_wide h) sample.wide sample.loop_start k.bits) l.in_start in
    let m =
    len_again (length sample.frames) sample.loop_start sample.loop_len (frame_count h) (loop_start_of h) _ n s
    (in_frames_again (is_wide h) sample.wide sample.loop_len k.bits) l.in_len in
    let t =
    kept (length sample.frames) (loop_kind_of h) (loop_start_of h) (loop_len_of h) sample.loop_kind
    sample.loop_start sample.loop_len k.loop s m l in
    same_sample sample (min 64 sample.volume) (cast_signed w8 (cast_unsigned w8 sample.finetune))
    (cast_signed w8 (cast_unsigned w8 sample.relative)) (is_wide h) _ _ _ _
    (least 64 sample.volume v.volume) (to_z-of_z w8 sample.finetune v.finetune)
    (to_z-of_z w8 sample.relative v.relative) k.bits t.same_kind t.same_start t.same_len
    (frames_again (is_wide h) sample.wide (sample_data sample) sample.frames k.bits w.means)

-- ---- sizes

pub sample_header_length : (sample : Sample) → IsValidSample sample
    → length (sample_header_text (sample_header_of sample)) ≡ 40
unfolding sample_header_text
sample_header_length sample v = omega (arith, v.name.len)

length_by_width : (wide : Bool) (frames : List ℤ)
    → length (cond wide (wide_data frames) (narrow_data frames)) ≡ size_of wide * length frames
length_by_width true frames = wide_data_length frames
length_by_width false frames = omega (arith, narrow_data_length frames)

pub data_length : (sample : Sample) → length (sample_data sample) ≡ frame_size sample * length sample.frames
unfolding sample_data
data_length sample = length_by_width sample.wide sample.frames
