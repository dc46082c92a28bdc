-- How often the ids of a laid song name a segment: each below its end, once.
use Rattle.std.proofs.Common.{◌≡◌, ◌≢◌, ℕ, zero, suc, ◌+◌, ◌*◌, ◌<◌, ◌≤◌, min, cond, ltb, lt-ltb, le-ltb, eq-eqb, ne_eqb, List, [], ◌∷◌, refl, ap, ◌∙◌, arith, inl, inr}
use Rattle.std.specs.List.{range_with_len, sum_by}
use Rattle.std.proofs.lemmas.Bool.{cases_lt}
use Rattle.std.proofs.lemmas.List.Sums.{sum_by-cons}
use Rattle.std.proofs.lemmas.List.FromFn.{sum_by-map-range_with_len_more}
use Rattle.ft_types.specs.declared.module.Module.{Module}
use Rattle.ft_types.specs.declared.pattern.Pattern.{Pattern}
use Rattle.ft_types.specs.declared.instrument.Instrument.{Instrument}
use Rattle.ft_types.specs.declared.sample.Sample.{Sample}
use Rattle.ft_types.specs.Blocks.{pieces_of, pattern_blocks, bodies_of, indexes_of, sample_blocks, instrument_blocks, blocks_of}
use Rattle.ft_segments.specs.Walk.{is_it, pattern_uses, index_uses, sample_uses, instrument_uses, uses, IsSound, each_below, bodies_of_index}
use Rattle.ft_image.specs.Laid.{laid, pattern_laid, index_laid, sample_laid, instrument_laid, song_laid, behind_patterns}

-- 1 for a segment below another
abbrev pub under : ℕ → ℕ → ℕ
under s n = cond (ltb s n) 1 0

pub under-lt : (s n : ℕ) → s < n → under s n ≡ 1
under-lt s n lt = rw (lt-ltb s n lt) refl

pub under-le : (s n : ℕ) → n ≤ s → under s n ≡ 0
under-le s n le = rw (le-ltb s n le) refl

pub one_more : (s n : ℕ) → is_it s n + under s n ≡ under s (n + 1)
one_more s n =
    elim (cases_lt s n) [
      | inl lt ↦
          let ne : n ≢ s = omega arith in
          let a : is_it s n ≡ 0 = rw (ne_eqb n s ne) refl in
          let b = under-lt s n lt in
          let c = under-lt s (n + 1) (omega arith) in
          omega arith
      | inr le ↦ elim (cases_lt n s) [
        | inl lt ↦
            let ne : n ≢ s = omega arith in
            let a : is_it s n ≡ 0 = rw (ne_eqb n s ne) refl in
            let b = under-le s n le in
            let c = under-le s (n + 1) (omega arith) in
            omega arith
        | inr ge ↦
            let e : n ≡ s = omega arith in
            let a : is_it s n ≡ 1 = rw (eq-eqb n s e) refl in
            let b = under-le s n le in
            let c = under-lt s (n + 1) (omega arith) in
            omega arith
      ]
    ]

pub run : (s a n : ℕ) → sum_by (is_it s) (range_with_len a n) + under s a ≡ under s (a + n)
run s a zero = let e : under s (a + 0) ≡ under s a = ap (under s) (omega arith) in omega arith
run s a (suc n) =
    let c = sum_by-cons (is_it s) a (range_with_len (a + 1) n) in
    let r = run s (a + 1) n in
    let m = one_more s a in
    let e : under s (a + suc n) ≡ under s (a + 1 + n) = ap (under s) (omega arith) in
    omega arith

-- parts laid one after the other
pub laid_uses : {X Y : Type 0} → (size : X → ℕ) (ids : ℕ → X → Y) (part : Y → ℕ) (s : ℕ)
    → ((n : ℕ) (x : X) → part (ids n x) + under s n ≡ under s (n + size x))
    → (n : ℕ) (xs : List X) → sum_by part (laid size ids n xs) + under s n ≡ under s (n + sum_by size xs)
laid_uses size ids part s one n [] = let e : under s (n + 0) ≡ under s n = ap (under s) (omega arith) in omega arith
laid_uses size ids part s one n (x ∷ xs) =
    let c = sum_by-cons part (ids n x) (laid size ids (n + size x) xs) in
    let d = sum_by-cons size x xs in
    let r = laid_uses size ids part s one (n + size x) xs in
    let m = one n x in
    let e : under s (n + sum_by size (x ∷ xs)) ≡ under s (n + size x + sum_by size xs) = ap (under s) (omega arith) in
    omega arith

telescope : {X : Type 0} → (part : X → ℕ) (f : ℕ → X) (t : ℕ → ℕ) (n : ℕ)
    → ((k : ℕ) → k < n → part (f k) + t k ≡ t (k + 1)) → sum_by part (each_below n f) + t 0 ≡ t n
telescope part f t zero step = omega arith
telescope part f t (suc n) step =
    let more = sum_by-map-range_with_len_more part f 0 n n (omega arith) in
    let e : suc n ≡ n + 1 = omega arith in
    let r = telescope part f t n (λ k lt. step k (omega arith)) in
    let m = step n (omega arith) in
    let all : sum_by part (each_below (suc n) f) ≡ sum_by part (each_below n f) + part (f n)
    = ap (λ (k : ℕ). sum_by part (each_below k f)) e ∙ more in
    let last : t (suc n) ≡ t (n + 1) = ap t e in
    omega arith

pub pattern_run : (channels s n : ℕ) (x : Pattern)
    → pattern_uses s (pattern_laid channels n x) + under s n ≡ under s (n + pattern_blocks channels x)
pattern_run channels s n x =
    let m = one_more s n in
    let r = run s (n + 1) (pieces_of (x.rows * channels) 256) in
    let e : under s (n + pattern_blocks channels x) ≡ under s (n + 1 + pieces_of (x.rows * channels) 256) = ap (under s) (omega arith) in
    omega arith

-- index k: its root, and its bodies behind those of the indexes before
index_run : (s from indexes bodies k : ℕ) → k < pieces_of bodies 1024
    → index_uses s (index_laid from indexes bodies k) + (under s (from + k) + under s (from + indexes + min (1024 * k) bodies))
    ≡ under s (from + (k + 1)) + under s (from + indexes + min (1024 * (k + 1)) bodies)
index_run s from indexes bodies k lt =
    let m = one_more s (from + k) in
    let e : under s (from + (k + 1)) ≡ under s (from + k + 1) = ap (under s) (omega arith) in
    let low : min (1024 * k) bodies ≡ 1024 * k = omega arith in
    let a : under s (from + indexes + min (1024 * k) bodies) ≡ under s (from + indexes + 1024 * k)
    = ap (λ (n : ℕ). under s (from + indexes + n)) low in
    let r = run s (from + indexes + 1024 * k) (bodies_of_index bodies k) in
    let high : from + indexes + min (1024 * (k + 1)) bodies ≡ from + indexes + 1024 * k + bodies_of_index bodies k = omega arith in
    let b = ap (under s) high in
    omega arith

pub sample_run : (s n : ℕ) (x : Sample) → sample_uses s (sample_laid n x) + under s n ≡ under s (n + sample_blocks x)
sample_run s n x =
    let m = one_more s n in
    let i = indexes_of x in
    let b = bodies_of x in
    let t = telescope (index_uses s) (index_laid (n + 1) i b)
    (λ k. under s (n + 1 + k) + under s (n + 1 + i + min (1024 * k) b)) i (λ k lt. index_run s (n + 1) i b k lt) in
    let first : under s (n + 1 + 0) ≡ under s (n + 1) = ap (under s) (omega arith) in
    let none : under s (n + 1 + i + min (1024 * 0) b) ≡ under s (n + 1 + i) = ap (under s) (omega arith) in
    let all : under s (n + 1 + i + min (1024 * i) b) ≡ under s (n + sample_blocks x) = ap (under s) (omega arith) in
    omega arith

pub instrument_run : (s n : ℕ) (x : Instrument)
    → instrument_uses s (instrument_laid n x) + under s n ≡ under s (n + instrument_blocks x)
instrument_run s n x =
    let m = one_more s n in
    let r = laid_uses sample_blocks sample_laid (sample_uses s) s (sample_run s) (n + 1) x.samples in
    let e : under s (n + instrument_blocks x) ≡ under s (n + 1 + sum_by sample_blocks x.samples) = ap (under s) (omega arith) in
    omega arith

pub song_run : (m : Module) (s : ℕ) → uses s (song_laid m) ≡ under s (blocks_of m)
song_run m s =
    let first = one_more s 0 in
    let none = under-le s 0 (omega arith) in
    let p = laid_uses (pattern_blocks m.channels) (pattern_laid m.channels) (pattern_uses s) s (pattern_run m.channels s) 1 m.patterns in
    let i = laid_uses instrument_blocks instrument_laid (instrument_uses s) s (instrument_run s) (behind_patterns m) m.instruments in
    omega arith

pub laid_sound : (m : Module) → IsSound (blocks_of m) (song_laid m)
laid_sound m = record {
  once = λ s. let a = song_run m s in elim (cases_lt s (blocks_of m)) [
    | inl lt ↦ let b = under-lt s (blocks_of m) lt in omega arith
    | inr le ↦ let b = under-le s (blocks_of m) le in omega arith
  ];
  within = λ s one. let a = song_run m s in elim (cases_lt s (blocks_of m)) [
    | inl lt ↦ lt
    | inr le ↦ absurd (let b = under-le s (blocks_of m) le in omega arith)
  ];
}
