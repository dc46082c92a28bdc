-- A version that shows a song has as many segments as the song has blocks.
use Rattle.std.proofs.Common.{◌≡◌, ◌≢◌, ℕ, zero, suc, ◌+◌, ◌*◌, ◌/◌, ◌<◌, ◌≤◌, min, List, [], ◌∷◌, Some, length, refl, sym, ap, ◌∙◌, arith, inl, inr, eq-eqb, ne_eqb}
use Rattle.std.specs.List.{slice_get, range_with_len, sum_by}
use Rattle.std.proofs.lemmas.Bool.{cases_lt}
use Rattle.std.proofs.lemmas.List.Sums.{sum_by-cons}
use Rattle.ft_types.specs.declared.module.Module.{Module}
use Rattle.ft_types.specs.declared.pattern.Pattern.{Pattern}
use Rattle.ft_types.specs.declared.instrument.Instrument.{Instrument}
use Rattle.ft_types.specs.declared.sample.Sample.{Sample}
use Rattle.ft_types.specs.Blocks.{pattern_blocks, bodies_of, indexes_of, sample_blocks, instrument_blocks, blocks_of}
use Rattle.ft_segments.specs.Walk.{PatternIds, IndexIds, SampleIds, InstrumentIds, Placed, bodies_of_index, ids_of, is_it, uses, pattern_uses, index_uses, sample_uses, instrument_uses}
use Rattle.ft_image.specs.Shown.{ShowsPattern, ShowsIndex, ShowsSample, ShowsInstrument, Shows}
use Rattle.ft_image.proofs.Lists.{part_of_sum}
use Rattle.ft_image.proofs.Walked.{itself, pattern_root_of, pattern_body_of, instrument_root_of, of_sample, sample_root_of, of_index, index_root_of, index_body_of}

-- ---- sums over segments

-- what a function gives of each number from one on, added up
abbrev total : ℕ → ℕ → (ℕ → ℕ) → ℕ
total from zero f = 0
total from (suc n) f = f from + total (from + 1) n f

total_is : (f : ℕ → ℕ) (from n : ℕ) → sum_by f (range_with_len from n) ≡ total from n f
total_is f from zero = refl
total_is f from (suc n) =
    let c = sum_by-cons f from (range_with_len (from + 1) n) in
    let r = total_is f (from + 1) n in
    omega arith

total_zero : (from n : ℕ) → total from n (λ s. 0) ≡ 0
total_zero from zero = refl
total_zero from (suc n) = let r = total_zero (from + 1) n in omega arith

total_add : (f g : ℕ → ℕ) (from n : ℕ) → total from n (λ s. f s + g s) ≡ total from n f + total from n g
total_add f g from zero = refl
total_add f g from (suc n) = let r = total_add f g (from + 1) n in omega arith

total_same : (f g : ℕ → ℕ) (from n : ℕ) → ((s : ℕ) → f s ≡ g s) → total from n f ≡ total from n g
total_same f g from zero same = refl
total_same f g from (suc n) same =
    let a = same from in
    let r = total_same f g (from + 1) n same in
    omega arith

total_none : (id from n : ℕ) → id < from → total from n (λ s. is_it s id) ≡ 0
total_none id from zero lt = refl
total_none id from (suc n) lt =
    let ne : id ≢ from = omega arith in
    let a : is_it from id ≡ 0 = rw (ne_eqb id from ne) refl in
    let r = total_none id (from + 1) n (omega arith) in
    omega arith

-- an id is one of the numbers, once
total_one : (id from n : ℕ) → from ≤ id → id < from + n → total from n (λ s. is_it s id) ≡ 1
total_one id from zero le lt = absurd (omega arith)
total_one id from (suc n) le lt =
    elim (cases_lt from id) [
      | inl more ↦
          let ne : id ≢ from = omega arith in
          let a : is_it from id ≡ 0 = rw (ne_eqb id from ne) refl in
          let r = total_one id (from + 1) n (omega arith) (omega arith) in
          omega arith
      | inr here ↦
          let e : id ≡ from = omega arith in
          let a : is_it from id ≡ 1 = rw (eq-eqb id from e) refl in
          let r = total_none id (from + 1) n (omega arith) in
          omega arith
    ]

one_below : (id n : ℕ) → id < n → total 0 n (λ s. is_it s id) ≡ 1
one_below id n lt = total_one id 0 n (omega arith) (omega arith)

-- parts of a list, each with its own sum over the segments
total_parts : {X : Type 0} → (part : ℕ → X → ℕ) (size : X → ℕ) (n : ℕ) (xs : List X)
    → ((k : ℕ) (x : X) → slice_get xs k ≡ Some x → total 0 n (λ s. part s x) ≡ size x)
    → total 0 n (λ s. sum_by (part s) xs) ≡ sum_by size xs
total_parts part size n [] each = total_zero 0 n
total_parts part size n (x ∷ xs) each =
    let c = sum_by-cons size x xs in
    let a = total_same (λ s. sum_by (part s) (x ∷ xs)) (λ s. part s x + sum_by (part s) xs) 0 n (λ s. sum_by-cons (part s) x xs) in
    let b = total_add (λ s. part s x) (λ s. sum_by (part s) xs) 0 n in
    let first = each 0 x refl in
    let rest = total_parts part size n xs (λ k y is. each (suc k) y is) in
    omega arith

sum_ones : (xs : List ℕ) → sum_by (λ id. 1) xs ≡ length xs
sum_ones [] = refl
sum_ones (x ∷ xs) = let c = sum_by-cons (λ (id : ℕ). 1) x xs in let r = sum_ones xs in omega arith

-- the ids of a list, each of a segment
total_ids : (n : ℕ) (ids : List ℕ) → ((k s : ℕ) → slice_get ids k ≡ Some s → s < n) → total 0 n (λ s. sum_by (is_it s) ids) ≡ length ids
total_ids n ids low =
    total_parts (λ (s id : ℕ). is_it s id) (λ id. 1) n ids (λ k id is. one_below id n (low k id is)) ∙ sum_ones ids

-- ---- parts

-- a root and bodies
total_rooted : (n root : ℕ) (bodies : List ℕ) → root < n → ((k s : ℕ) → slice_get bodies k ≡ Some s → s < n)
    → total 0 n (λ s. is_it s root + sum_by (is_it s) bodies) ≡ 1 + length bodies
total_rooted n root bodies lt low =
    let a = total_add (λ s. is_it s root) (λ s. sum_by (is_it s) bodies) 0 n in
    let b = one_below root n lt in
    let c = total_ids n bodies low in
    omega arith

pattern_count : (pool : List ℕ) (channels n : ℕ) (x : Pattern) (q : PatternIds) → ShowsPattern pool channels x q
    → ((s : ℕ) → 1 ≤ pattern_uses s q → s < n) → total 0 n (λ s. pattern_uses s q) ≡ pattern_blocks channels x
pattern_count pool channels n x q shown low =
    let a = total_rooted n q.root q.bodies (low q.root (pattern_root_of q.root q refl)) (λ k s is. low s (pattern_body_of s k q is)) in
    let b = shown.count in
    omega arith

index_count : (pool : List ℕ) (n : ℕ) (x : Sample) (k : ℕ) (q : IndexIds) → ShowsIndex pool x k q
    → ((s : ℕ) → 1 ≤ index_uses s q → s < n) → total 0 n (λ s. index_uses s q) ≡ 1 + length q.bodies
index_count pool n x k q shown low =
    total_rooted n q.root q.bodies (low q.root (index_root_of q.root q refl)) (λ j s is. low s (index_body_of s j q is))

-- indexes from number k on, which name what is left of that many bodies
indexes_count : (bodies k : ℕ) (qs : List IndexIds)
    → ((j : ℕ) (q : IndexIds) → slice_get qs j ≡ Some q → length q.bodies ≡ bodies_of_index bodies (k + j))
    → sum_by (λ (q : IndexIds). 1 + length q.bodies) qs + min (1024 * k) bodies ≡ length qs + min (1024 * (k + length qs)) bodies
indexes_count bodies k [] each = let e : k + 0 ≡ k = omega arith in let f : min (1024 * (k + 0)) bodies ≡ min (1024 * k) bodies
    = ap (λ (i : ℕ). min (1024 * i) bodies) e in omega arith
indexes_count bodies k (q ∷ qs) each =
    let c = sum_by-cons (λ (q : IndexIds). 1 + length q.bodies) q qs in
    let zeros : k + 0 ≡ k = omega arith in
    let first : length q.bodies ≡ bodies_of_index bodies k = each 0 q refl ∙ ap (bodies_of_index bodies) zeros in
    let rest = indexes_count bodies (k + 1) qs (λ j p is. let e : k + suc j ≡ k + 1 + j = omega arith in each (suc j) p is
    ∙ ap (bodies_of_index bodies) e) in
    let last : min (1024 * (k + suc (length qs))) bodies ≡ min (1024 * (k + 1 + length qs)) bodies
    = ap (λ (i : ℕ). min (1024 * i) bodies) (omega arith) in
    let step : min (1024 * k) bodies + bodies_of_index bodies k ≡ min (1024 * (k + 1)) bodies = omega arith in
    omega arith

sample_count : (pool : List ℕ) (n : ℕ) (x : Sample) (q : SampleIds) → ShowsSample pool x q
    → ((s : ℕ) → 1 ≤ sample_uses s q → s < n) → total 0 n (λ s. sample_uses s q) ≡ sample_blocks x
sample_count pool n x q shown low =
    let a = total_add (λ s. is_it s q.root) (λ s. sum_by (index_uses s) q.indexes) 0 n in
    let b = one_below q.root n (low q.root (sample_root_of q.root q refl)) in
    let c = total_parts index_uses (λ (i : IndexIds). 1 + length i.bodies) n q.indexes
    (λ k i is. index_count pool n x k i (shown.each k i is) (λ s one. low s (of_index s k q i is one))) in
    let d = indexes_count (bodies_of x) 0 q.indexes
    (λ j i is. let e : 0 + j ≡ j = omega arith in (shown.each j i is).count ∙ ap (bodies_of_index (bodies_of x)) (sym e)) in
    let none : min (1024 * 0) (bodies_of x) ≡ 0 = omega arith in
    let all : min (1024 * (0 + length q.indexes)) (bodies_of x) ≡ bodies_of x
    = ap (λ (i : ℕ). min (1024 * i) (bodies_of x)) (omega (arith, shown.count))
    ∙ (let e : min (1024 * indexes_of x) (bodies_of x) ≡ bodies_of x = omega arith in e) in
    let count = shown.count in
    omega arith

-- parts of two lists, in pairs
total_pairs : {X Y : Type 0} → (part : ℕ → Y → ℕ) (size : X → ℕ) (n : ℕ) (xs : List X) (ys : List Y) → length ys ≡ length xs
    → ((k : ℕ) (x : X) (y : Y) → slice_get xs k ≡ Some x → slice_get ys k ≡ Some y → total 0 n (λ s. part s y) ≡ size x)
    → total 0 n (λ s. sum_by (part s) ys) ≡ sum_by size xs
total_pairs part size n [] [] len each = total_zero 0 n
total_pairs part size n [] (y ∷ ys) len each = absurd (omega arith)
total_pairs part size n (x ∷ xs) [] len each = absurd (omega arith)
total_pairs part size n (x ∷ xs) (y ∷ ys) len each =
    let c = sum_by-cons size x xs in
    let a = total_same (λ s. sum_by (part s) (y ∷ ys)) (λ s. part s y + sum_by (part s) ys) 0 n (λ s. sum_by-cons (part s) y ys) in
    let b = total_add (λ s. part s y) (λ s. sum_by (part s) ys) 0 n in
    let first = each 0 x y refl refl in
    let rest = total_pairs part size n xs ys (omega arith) (λ k w z is at. each (suc k) w z is at) in
    omega arith

instrument_count : (pool : List ℕ) (n : ℕ) (x : Instrument) (q : InstrumentIds) → ShowsInstrument pool x q
    → ((s : ℕ) → 1 ≤ instrument_uses s q → s < n) → total 0 n (λ s. instrument_uses s q) ≡ instrument_blocks x
instrument_count pool n x q shown low =
    let a = total_add (λ s. is_it s q.root) (λ s. sum_by (sample_uses s) q.samples) 0 n in
    let b = one_below q.root n (low q.root (instrument_root_of q.root q refl)) in
    let c = total_pairs sample_uses sample_blocks n x.samples q.samples shown.each.count
    (λ k y i is at. sample_count pool n y i (shown.each.each k y i is at) (λ s one. low s (of_sample s k q i at one))) in
    omega arith

pub song_count : (p : Placed) (m : Module) → Shows p m
    → sum_by (λ s. uses s (ids_of p)) (range_with_len 0 (length p.pool / 256)) ≡ blocks_of m
song_count p m shows =
    let ids = ids_of p in
    let n = length p.pool / 256 in
    let low = shows.sound.within in
    let root : ids.root < n = low ids.root (let one = itself ids.root in omega arith) in
    let a = total_add (λ s. is_it s ids.root + sum_by (pattern_uses s) ids.patterns) (λ s. sum_by
    (instrument_uses s) ids.instruments) 0 n in
    let b = total_add (λ s. is_it s ids.root) (λ s. sum_by (pattern_uses s) ids.patterns) 0 n in
    let c = one_below ids.root n root in
    let d = total_pairs pattern_uses (pattern_blocks m.channels) n m.patterns ids.patterns shows.stands.patterns.count
    (λ k x q is at. pattern_count p.pool m.channels n x q (shows.stands.patterns.each k x q is at)
    (λ s one. low s (let part = part_of_sum (pattern_uses s) ids.patterns k q at in omega arith))) in
    let e = total_pairs instrument_uses instrument_blocks n m.instruments ids.instruments shows.stands.instruments.count
    (λ k x q is at. instrument_count p.pool n x q (shows.stands.instruments.each k x q is at)
    (λ s one. low s (let part = part_of_sum (instrument_uses s) ids.instruments k q at in omega arith))) in
    let f = total_is (λ s. uses s ids) 0 n in
    omega arith
