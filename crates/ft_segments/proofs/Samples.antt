-- The walk from a sample's root.
use Rattle.std.proofs.Common.{◌≡◌, ℕ, zero, suc, ◌+◌, ◌/◌, ◌%◌, ◌<◌, ◌≤◌, List, ◌∷◌, ◌++◌, [], Some, get_or, refl, sym, ap, ◌∙◌, arith, eq-eqb}
use Rattle.std.specs.List.{slice_get, sum_by}
use Rattle.std.proofs.lemmas.List.Sums.{get_or-le-sum_by}
use Rattle.std.proofs.lemmas.List.FromFn.{get_or-map-range_with_len, length-map-range_with_len, map-range_with_len_more}
use Rattle.std.proofs.lemmas.Option.{slice_get_within, get_or_from_slice_get}
use Rattle.ft_types.specs.Blocks.{pieces_of}
use Rattle.ft_segments.specs.Packing.{digit, id_at}
use Rattle.ft_segments.specs.Walk.{IndexIds, SampleIds, InstrumentIds, Placed, IsOf, SameWords, each_below, frames_in, bodies_in, bodies_of_index, ids_of, is_it, index_uses, sample_uses, instrument_uses, index_walk, sample_walk}

itself : (s : ℕ) → is_it s s ≡ 1
itself s = rw (eq-eqb s s refl) refl

-- a part of a sum
part_of_sum : {X : Type 0} → (f : X → ℕ) (xs : List X) (k : ℕ) (x : X) → slice_get xs k ≡ Some x → f x ≤ sum_by f xs
part_of_sum f xs k x is =
    let e : f (get_or xs k x) ≡ f x = ap f (get_or_from_slice_get xs k x x is) in
    let part = get_or-le-sum_by f xs k x (slice_get_within xs k x is) in
    omega arith

below_within : {X : Type 0} → (n : ℕ) (f : ℕ → X) (k : ℕ) (part : X → ℕ) → k < n → part (f k) ≤ sum_by part (each_below n f)
below_within n f k part lt =
    let len = length-map-range_with_len f 0 n in
    let at = get_or-map-range_with_len f 0 n k k (f k) lt (omega arith) in
    let e = ap part at in
    let le = get_or-le-sum_by part (each_below n f) k (f k) (omega arith) in
    omega arith

same_below : {X : Type 0} → (f g : ℕ → X) (n : ℕ) → ((k : ℕ) → k < n → f k ≡ g k) → each_below n f ≡ each_below n g
same_below f g zero same = refl
same_below {X = X} f g (suc n) same =
    let e : suc n ≡ n + 1 = omega arith in
    let before = same_below f g n (λ k lt. same k (omega arith)) in
    ap (λ (k : ℕ). each_below k f) e ∙ map-range_with_len_more f 0 n n (omega arith)
    ∙ ap (λ (x : X). each_below n f ++ x ∷ []) (same n (omega arith))
    ∙ ap (λ (l : List X). l ++ g n ∷ []) before
    ∙ sym (map-range_with_len_more g 0 n n (omega arith)) ∙ sym (ap (λ (k : ℕ). each_below k g) e)

id_stays : (old new : List ℕ) (segment first i : ℕ) → SameWords old new segment → first + i / 4 < 256
    → id_at new segment first i ≡ id_at old segment first i
unfolding id_at
id_stays old new segment first i same lt = ap (λ (w : ℕ). digit 65536 w (i % 4)) (same (first + i / 4) lt)

root_used : (old : List ℕ) (root : ℕ) → 1 ≤ sample_uses root (sample_walk old root)
unfolding sample_walk
root_used old root = let one = itself root in omega arith

index_used : (old : List ℕ) (root k : ℕ) → k < pieces_of (bodies_in old root) 1024
    → 1 ≤ sample_uses (id_at old root 16 k) (sample_walk old root)
unfolding sample_walk
index_used old root k lt =
    let s = id_at old root 16 k in
    let f : ℕ → IndexIds = λ i. index_walk old (bodies_of_index (bodies_in old root) i) (id_at old root 16 i) in
    let one = itself s in
    let part = below_within (pieces_of (bodies_in old root) 1024) f k (index_uses s) lt in
    omega arith

pub stays : (old new : List ℕ) (root : ℕ) → frames_in old root ≤ 3932160
    → ((s : ℕ) → 1 ≤ sample_uses s (sample_walk old root) → SameWords old new s) → sample_walk new root ≡ sample_walk old root
unfolding sample_walk
stays old new root few same =
    let at_root = same root (root_used old root) in
    let frames : frames_in new root ≡ frames_in old root = ap (λ (w : ℕ). digit 4294967296 w 0) (at_root 0 (omega arith)) in
    let bodies : bodies_in new root ≡ bodies_in old root = ap (λ (n : ℕ). pieces_of n 1024) frames in
    let n = pieces_of (bodies_in old root) 1024 in
    let f : ℕ → IndexIds = λ k. index_walk new (bodies_of_index (bodies_in new root) k) (id_at new root 16 k) in
    let g : ℕ → IndexIds = λ k. index_walk old (bodies_of_index (bodies_in old root) k) (id_at old root 16 k) in
    let indexes : each_below n f ≡ each_below n g
    = same_below f g n (λ k lt.
    let index = id_at old root 16 k in
    let count = bodies_of_index (bodies_in old root) k in
    let id : id_at new root 16 k ≡ index = id_stays old new root 16 k at_root (omega arith) in
    let at_index = same index (index_used old root k lt) in
    let ids : each_below count (λ j. id_at new index 0 j) ≡ each_below count (λ j. id_at old index 0 j)
    = same_below (λ j. id_at new index 0 j) (λ j. id_at old index 0 j) count
    (λ j l. id_stays old new index 0 j at_index (omega arith)) in
    ap (λ (b : ℕ). index_walk new (bodies_of_index b k) (id_at new root 16 k)) bodies
    ∙ ap (λ (r : ℕ). index_walk new count r) id
    ∙ ap (λ (bs : List ℕ). record { root = index; bodies = bs }) ids) in
    ap (λ (b : ℕ). record { root = root; indexes = each_below (pieces_of b 1024) f }) bodies
    ∙ ap (λ (is : List IndexIds). record { root = root; indexes = is }) indexes

pub of_it : (placed : Placed) (i n : ℕ) (instrument : InstrumentIds) (sample : SampleIds) (segment : ℕ)
    → slice_get (ids_of placed).instruments i ≡ Some instrument → slice_get instrument.samples n ≡ Some sample
    → 1 ≤ sample_uses segment sample → IsOf placed segment
of_it placed i n instrument sample segment at in_it one =
    let part = part_of_sum (sample_uses segment) instrument.samples n sample in_it in
    let whole = part_of_sum (instrument_uses segment) (ids_of placed).instruments i instrument at in
    omega arith
