-- What a pin holds is named in each pool that has its words.
use Rattle.std.proofs.Common.{◌≡◌, ◌+◌, ◌/◌, ◌%◌, ◌<◌, ◌≤◌, inl, inr, ℕ, List, length, get_or, sym, refl, ap, ◌∙◌, subst, ⊎_elim, arith, Some, if◌then◌else◌, min, sum_by, eq-eqb}
use Rattle.std.specs.List.{slice_get, Contains}
use Rattle.std.proofs.lemmas.Option.{slice_get_within, get_or_from_slice_get}
use Rattle.std.proofs.lemmas.List.FromFn.{length-map-range_with_len, get_or-map-range_with_len}
use Rattle.std.proofs.lemmas.List.Sums.{sum_by_more_le}
use Rattle.ft_segments.specs.Packing.{digit, word_at, id_at}
use Rattle.ft_segments.specs.Walk.{IndexIds, each_below, bodies_in, bodies_of_index, index_walk, sample_walk, is_it, index_uses, sample_uses, Placed, IsOf, SameWords}
use Rattle.ft_types.specs.Blocks.{pieces_of}
use Rattle.ft_segments.specs.Pins.{index_room, IndexNames, PinHolds}

at-sum : {A : Type 0} (f : A → ℕ) (xs : List A) (i : ℕ) (d : A) → i < length xs → f (get_or xs i d) ≤ sum_by f xs
at-sum f xs i d l = let m = sum_by_more_le f xs i d l in omega arith

is-it : (s id : ℕ) → s ≡ id → is_it s id ≡ 1
is-it s id e = ap (λ b. if b then 1 else 0) (eq-eqb id s (sym e))

min-le : (m n j : ℕ) → j < min m n → j < m
min-le m n j l = omega arith

-- an id is by one word
id-same : (p q : List ℕ) (s first i : ℕ) → word_at q s (first + i / 4) ≡ word_at p s (first + i / 4) → id_at q s first i ≡ id_at p s first i
unfolding id_at
id-same p q s first i e = ap (λ (w : ℕ). digit 65536 w (i % 4)) e

-- the index at k of a sample, by the words of a pool
abbrev index_at : List ℕ → ℕ → ℕ → IndexIds
index_at p root k = index_walk p (bodies_of_index (bodies_in p root) k) (id_at p root 16 k)

index-found : (p : List ℕ) (root k : ℕ) (index : IndexIds) → slice_get (sample_walk p root).indexes k ≡ Some index
    → (k < pieces_of (bodies_in p root) 1024) × (index_at p root k ≡ index)
unfolding sample_walk
index-found p root k index e =
    let n : ℕ = pieces_of (bodies_in p root) 1024 in
    let all : List IndexIds = each_below n (index_at p root) in
    let long : length all ≡ n = length-map-range_with_len (index_at p root) 0 n in
    let l : k < length all = slice_get_within all k index e in
    let inside : k < n = omega arith in (
      inside,
      sym (get_or-map-range_with_len (index_at p root) 0 n k k index inside (omega arith))
          ∙ get_or_from_slice_get all k index index e,
    )

index-used : (q : List ℕ) (root k s : ℕ) → k < pieces_of (bodies_in q root) 1024 → 1 ≤ index_uses s (index_at q root k)
    → 1 ≤ sample_uses s (sample_walk q root)
unfolding sample_walk
index-used q root k s inside used =
    let n : ℕ = pieces_of (bodies_in q root) 1024 in
    let all : List IndexIds = each_below n (index_at q root) in
    let long : length all ≡ n = length-map-range_with_len (index_at q root) 0 n in
    let here : get_or all k (index_at q root k) ≡ index_at q root k =
    get_or-map-range_with_len (index_at q root) 0 n k k (index_at q root k) inside (omega arith) in
    let same : index_uses s (get_or all k (index_at q root k)) ≡ index_uses s (index_at q root k) = ap (index_uses s) here in
    let sum : index_uses s (get_or all k (index_at q root k)) ≤ sum_by (index_uses s) all = at-sum (index_uses s) all k
    (index_at q root k) (omega arith) in
    omega arith

root-used : (q : List ℕ) (root s : ℕ) → s ≡ root → 1 ≤ sample_uses s (sample_walk q root)
unfolding sample_walk
root-used q root s e = let o : is_it s root ≡ 1 = is-it s root e in omega arith

-- an index whose words are the same names the same bodies
body-used : (p q : List ℕ) (index count j s : ℕ) → SameWords p q index → count ≤ 1024 → j < count
    → get_or (index_walk p count index).bodies j s ≡ s → 1 ≤ index_uses s (index_walk q count index)
body-used p q index count j s same few inside e =
    let all : List ℕ = (index_walk q count index).bodies in
    let long : length all ≡ count = length-map-range_with_len (λ i. id_at q index 0 i) 0 count in
    let word : word_at q index (0 + j / 4) ≡ word_at p index (0 + j / 4) = same (0 + j / 4) (omega arith) in
    let here : get_or all j s ≡ id_at q index 0 j = get_or-map-range_with_len (λ i. id_at q index 0 i) 0 count j j s inside (omega arith) in
    let there : get_or (index_walk p count index).bodies j s ≡ id_at p index 0 j = get_or-map-range_with_len
    (λ i. id_at p index 0 i) 0 count j j s inside (omega arith) in
    let is : s ≡ get_or all j s = sym e ∙ (there ∙ (sym (id-same p q index 0 j word) ∙ sym here)) in
    let one : is_it s (get_or all j s) ≡ 1 = is-it s (get_or all j s) is in
    let sum : is_it s (get_or all j s) ≤ sum_by (is_it s) all = at-sum (is_it s) all j s (omega arith) in
    omega arith

-- what an index of the root names is named by the root in a pool with the same words
index-names : (placed : Placed) (q : List ℕ) (root segment k : ℕ) (index : IndexIds) → k < index_room
    → SameWords placed.pool q root → slice_get (sample_walk placed.pool root).indexes k ≡ Some index
    → (IsOf placed index.root → SameWords placed.pool q index.root)
    → IndexNames placed index segment → 1 ≤ sample_uses segment (sample_walk q root)
index-names placed q root segment k index room same at kept names =
    let p : List ℕ = placed.pool in
    let found = index-found p root k index at in
    let inside : k < pieces_of (bodies_in p root) 1024 = found.0 in
    let id : ℕ = id_at p root 16 k in
    let count : ℕ = bodies_of_index (bodies_in p root) k in
    let bodies : bodies_in q root ≡ bodies_in p root = ap (λ (w : ℕ). pieces_of (digit 4294967296 w 0) 1024) (same 0 (omega arith)) in
    let ids : id_at q root 16 k ≡ id = id-same p q root 16 k (same (16 + k / 4) (omega arith)) in
    let index' : index_walk q count id ≡ index_at q root k = λ i. index_walk q (bodies_of_index (sym bodies i) k) (sym ids i) in
    let root' : id ≡ index.root = ap (λ (x : IndexIds). x.root) found.1 in
    let used : 1 ≤ index_uses segment (index_walk q count id) → 1 ≤ sample_uses segment (sample_walk q root) = λ u.
    index-used q root k segment (subst (λ (b : ℕ). k < pieces_of b 1024) (sym bodies) inside)
    (subst (λ (x : IndexIds). 1 ≤ index_uses segment x) index' u) in
    ⊎_elim (λ (e : segment ≡ index.root). used (let one : is_it segment id ≡ 1 = is-it segment id (e ∙ sym root') in omega arith))
    (λ (t : IsOf placed index.root × Contains index.bodies segment). used
    (let c : Contains (index_walk p count id).bodies segment = subst (λ (x : IndexIds). Contains x.bodies segment) (sym found.1) t.1 in
    let long : length (index_walk p count id).bodies ≡ count = length-map-range_with_len (λ i. id_at p id 0 i) 0 count in
    let l : c.0 < length (index_walk p count id).bodies = c.1 in
    body-used p q id count c.0 segment (subst (SameWords p q) (sym root') (kept t.0)) (omega arith) (omega arith) c.2)) names

-- what a pin holds is named by the root in a pool with the same words
pub pin-names : (placed : Placed) (q : List ℕ) (root segment : ℕ) → ((held : ℕ) → PinHolds placed root held → SameWords placed.pool q held)
    → PinHolds placed root segment → 1 ≤ sample_uses segment (sample_walk q root)
pin-names placed q root segment same holds =
    let here : PinHolds placed root root = (holds.0, holds.0, inl refl) in
    ⊎_elim (λ (e : segment ≡ root). root-used q root segment e)
    (λ (t : (k : ℕ) × (index : IndexIds) × (k < index_room) ×
    (slice_get (sample_walk placed.pool root).indexes k ≡ Some index) × IndexNames placed index segment).
    index-names placed q root segment t.0 t.1 t.2 (same root here) t.3
    (λ of. same t.1.root (holds.0, of, inr (t.0, t.1, t.2, t.3, inl refl))) t.4) holds.2
