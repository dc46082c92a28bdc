-- The ids of a stored instrument, by their words.
use Rattle.std.proofs.Common.{◌≡◌, ℕ, zero, suc, ◌+◌, ◌/◌, ◌%◌, ◌<◌, ◌≤◌, List, [], ◌∷◌, All, Some, get_or, map, refl, ap, sym, subst, ◌∙◌, arith}
use Rattle.std.specs.Prelude.{option_map}
use Rattle.std.specs.List.{range_with_len, slice_get, sum_by}
use Rattle.std.proofs.lemmas.List.Sums.{get_or-le-sum_by}
use Rattle.std.proofs.lemmas.Option.{slice_get_within, get_or_from_slice_get, slice_get-map, same_Some}
use Rattle.ft_segments.specs.Packing as packing
use Rattle.ft_segments.specs.Packing.{digit, word_at, id_at}
use Rattle.ft_segments.specs.Walk as walking
use Rattle.ft_segments.specs.Walk.{SampleIds, InstrumentIds, Placed, IsOf, ids_of, sample_uses, instrument_uses, instrument_walk, samples_in, sample_walk}
use Rattle.ft_sharing.specs.Written.{sample_roots}
use Rattle.ft_songedit.proofs.SmallReaches.{is_itself}

pub root_there : {X : Type 0} (root : X → ℕ) (xs : List X) (k : ℕ) (x : X) → slice_get xs k ≡ Some x
    → slice_get (map root xs) k ≡ Some (root x)
root_there root xs k x is = slice_get-map root xs k ∙ ap (option_map root) is

pub part_of_sum : {X : Type 0} (f : X → ℕ) (xs : List X) (k : ℕ) (x : X) → slice_get xs k ≡ Some x → f x ≤ sum_by f xs
part_of_sum f xs k x is =
    let e : f (get_or xs k x) ≡ f x = ap f (get_or_from_slice_get xs k x x is) in
    let part = get_or-le-sum_by f xs k x (slice_get_within xs k x is) in
    omega (arith, e, part)

pub instrument_of_it : (p : Placed) (k : ℕ) (y : InstrumentIds) → slice_get (ids_of p).instruments k ≡ Some y → IsOf p y.root
instrument_of_it p k y there =
    let part = part_of_sum (instrument_uses y.root) (ids_of p).instruments k y there in
    let one = is_itself y.root in
    omega (arith, part, one)

digit_low : (word place : ℕ) → digit 65536 word place < 65536
digit_low word zero = omega arith
digit_low word (suc place) = digit_low (word / 65536) place

id_low : (pool : List ℕ) (segment first i : ℕ) → id_at pool segment first i < 65536
unfolding packing.id_at
id_low pool segment first i = digit_low (word_at pool segment (first + i / 4)) (i % 4)

small_at : {A : Type 0} (f : ℕ → A) (root : A → ℕ) → ((k : ℕ) → root (f k) < 65536) → (xs : List ℕ)
    → All (λ x. x < 65536) (map root (map f xs))
small_at f root low [] k d lt = absurd (omega (arith, lt))
small_at f root low (x ∷ xs) zero d lt = low x
small_at f root low (x ∷ xs) (suc k) d lt = small_at f root low xs k d (omega (arith, lt))

-- an element of a list that a function made
made_by : {A : Type 0} (f : ℕ → A) (xs : List ℕ) (k : ℕ) (y : A) → slice_get (map f xs) k ≡ Some y → (r : ℕ) × (y ≡ f r)
made_by f [] k y found = absurd cc
made_by f (x ∷ xs) zero y found = (x, sym (same_Some (f x) y found))
made_by f (x ∷ xs) (suc k) y found = made_by f xs k y found

walked_root : (pool : List ℕ) (r : ℕ) → (sample_walk pool r).root ≡ r
unfolding walking.sample_walk
walked_root pool r = refl

walked_small : (pool : List ℕ) (r : ℕ) → All (λ x. x < 65536) (sample_roots (instrument_walk pool r))
walked_small pool r =
    small_at (λ s. sample_walk pool (id_at pool r 30 s)) (λ (x : SampleIds). x.root)
    (λ k. subst (λ n. n < 65536) (sym (walked_root pool (id_at pool r 30 k))) (id_low pool r 30 k))
    (range_with_len 0 (samples_in pool r))

walked : (p : Placed) (k : ℕ) (y : InstrumentIds) → slice_get (ids_of p).instruments k ≡ Some y → (r : ℕ) × (y ≡ instrument_walk p.pool r)
unfolding walking.walk
walked p k y there =
    let one = made_by (λ i. instrument_walk p.pool (id_at p.pool p.root 104 i))
    (range_with_len 0 (walking.instruments_in p.pool p.root)) k y there in
    (id_at p.pool p.root 104 one.0, one.1)

pub samples_small : (p : Placed) (k : ℕ) (y : InstrumentIds) → slice_get (ids_of p).instruments k ≡ Some y
    → All (λ x. x < 65536) (sample_roots y)
samples_small p k y there =
    let one = walked p k y there in
    subst (λ (z : InstrumentIds). All (λ x. x < 65536) (sample_roots z)) (sym one.1) (walked_small p.pool one.0)

pub sample_of_it : (p : Placed) (k n : ℕ) (y : InstrumentIds) (j : SampleIds) → slice_get (ids_of p).instruments k ≡ Some y
    → slice_get y.samples n ≡ Some j → IsOf p j.root
sample_of_it p k n y j there there2 =
    let part = part_of_sum (instrument_uses j.root) (ids_of p).instruments k y there in
    let part2 = part_of_sum (sample_uses j.root) y.samples n j there2 in
    let one = is_itself j.root in
    omega (arith, part, part2, one)
