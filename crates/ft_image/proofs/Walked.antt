-- The segments that a walk names.
use Rattle.std.proofs.Common.{◌≡◌, ℕ, ◌<◌, ◌≤◌, List, Some, refl, sym, ap, subst, ◌∙◌, arith, eq-eqb}
use Rattle.std.specs.List.{slice_get}
use Rattle.ft_types.specs.Blocks.{pieces_of}
use Rattle.ft_segments.specs.Packing.{word_at, id_at}
use Rattle.ft_segments.specs.Walk.{PatternIds, IndexIds, SampleIds, InstrumentIds, Placed, IsOf, ids_of, walk, is_it, pattern_uses, index_uses, sample_uses, instrument_uses, pattern_walk, index_walk, sample_walk, instrument_walk, channels_in, patterns_in, instruments_in, samples_in, bodies_in, bodies_of_index}
use Rattle.ft_image.proofs.Lists.{part_of_sum, below_at}

pub itself : (s : ℕ) → is_it s s ≡ 1
itself s = rw (eq-eqb s s refl) refl

pub root_walk : (p : Placed) → (ids_of p).root ≡ p.root
unfolding walk
root_walk p = refl

pub at_root : (p : Placed) (root k : ℕ) → p.root ≡ root → word_at p.pool root k ≡ word_at p.pool (ids_of p).root k
at_root p root k is = ap (λ (r : ℕ). word_at p.pool r k) (sym is ∙ sym (root_walk p))

pub root_is : (p : Placed) (root : ℕ) → p.root ≡ root → IsOf p root
unfolding walk
root_is p root is = subst (IsOf p) is (let one = itself p.root in omega arith)

-- ---- patterns

pub pattern_at_walk : (p : Placed) (k : ℕ) → k < patterns_in p.pool p.root
    → slice_get (ids_of p).patterns k ≡ Some (pattern_walk p.pool (channels_in p.pool p.root) (id_at p.pool p.root 40 k))
unfolding walk
pattern_at_walk p k lt =
    below_at (patterns_in p.pool p.root) (λ i. pattern_walk p.pool (channels_in p.pool p.root) (id_at p.pool p.root 40 i)) k lt

-- a pattern's segments are the version's
pub of_pattern : (p : Placed) (k s : ℕ) (ids : PatternIds) → slice_get (ids_of p).patterns k ≡ Some ids → 1 ≤ pattern_uses s ids → IsOf p s
of_pattern p k s ids is one =
    let part = part_of_sum (pattern_uses s) (ids_of p).patterns k ids is in omega arith

pub pattern_root_of : (s : ℕ) (ids : PatternIds) → ids.root ≡ s → 1 ≤ pattern_uses s ids
pattern_root_of s ids is = let one : is_it s ids.root ≡ 1 = ap (is_it s) is ∙ itself s in omega arith

pub pattern_body_of : (s b : ℕ) (ids : PatternIds) → slice_get ids.bodies b ≡ Some s → 1 ≤ pattern_uses s ids
pattern_body_of s b ids is =
    let one = itself s in
    let part = part_of_sum (is_it s) ids.bodies b s is in omega arith

-- ---- instruments

pub instrument_at_walk : (p : Placed) (k : ℕ) → k < instruments_in p.pool p.root
    → slice_get (ids_of p).instruments k ≡ Some (instrument_walk p.pool (id_at p.pool p.root 104 k))
unfolding walk
instrument_at_walk p k lt =
    below_at (instruments_in p.pool p.root) (λ i. instrument_walk p.pool (id_at p.pool p.root 104 i)) k lt

pub of_instrument : (p : Placed) (k s : ℕ) (ids : InstrumentIds) → slice_get (ids_of p).instruments k ≡ Some ids
    → 1 ≤ instrument_uses s ids → IsOf p s
of_instrument p k s ids is one =
    let part = part_of_sum (instrument_uses s) (ids_of p).instruments k ids is in omega arith

pub instrument_root_of : (s : ℕ) (ids : InstrumentIds) → ids.root ≡ s → 1 ≤ instrument_uses s ids
instrument_root_of s ids is = let one : is_it s ids.root ≡ 1 = ap (is_it s) is ∙ itself s in omega arith

-- a sample's segments are its instrument's
pub of_sample : (s n : ℕ) (ids : InstrumentIds) (one : SampleIds) → slice_get ids.samples n ≡ Some one → 1 ≤ sample_uses s one
    → 1 ≤ instrument_uses s ids
of_sample s n ids one is lt =
    let part = part_of_sum (sample_uses s) ids.samples n one is in omega arith

pub sample_at_walk : (pool : List ℕ) (root n : ℕ) → n < samples_in pool root
    → slice_get (instrument_walk pool root).samples n ≡ Some (sample_walk pool (id_at pool root 30 n))
sample_at_walk pool root n lt = below_at (samples_in pool root) (λ i. sample_walk pool (id_at pool root 30 i)) n lt

-- ---- samples

pub sample_walk_root : (pool : List ℕ) (root : ℕ) → (sample_walk pool root).root ≡ root
unfolding sample_walk
sample_walk_root pool root = refl

pub sample_root_of : (s : ℕ) (ids : SampleIds) → ids.root ≡ s → 1 ≤ sample_uses s ids
sample_root_of s ids is = let one : is_it s ids.root ≡ 1 = ap (is_it s) is ∙ itself s in omega arith

pub of_index : (s k : ℕ) (ids : SampleIds) (index : IndexIds) → slice_get ids.indexes k ≡ Some index → 1 ≤ index_uses s index
    → 1 ≤ sample_uses s ids
of_index s k ids index is lt =
    let part = part_of_sum (index_uses s) ids.indexes k index is in omega arith

pub index_root_of : (s : ℕ) (ids : IndexIds) → ids.root ≡ s → 1 ≤ index_uses s ids
index_root_of s ids is = let one : is_it s ids.root ≡ 1 = ap (is_it s) is ∙ itself s in omega arith

pub index_body_of : (s b : ℕ) (ids : IndexIds) → slice_get ids.bodies b ≡ Some s → 1 ≤ index_uses s ids
index_body_of s b ids is =
    let one = itself s in
    let part = part_of_sum (is_it s) ids.bodies b s is in omega arith

pub index_at_walk : (pool : List ℕ) (root k : ℕ) → k < pieces_of (bodies_in pool root) 1024
    → slice_get (sample_walk pool root).indexes k ≡ Some (index_walk pool (bodies_of_index (bodies_in pool root) k) (id_at pool root 16 k))
unfolding sample_walk
index_at_walk pool root k lt =
    below_at (pieces_of (bodies_in pool root) 1024) (λ i. index_walk pool (bodies_of_index (bodies_in pool root) i)
    (id_at pool root 16 i)) k lt
