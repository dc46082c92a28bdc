-- The segments that a walk names.
use Rattle.std.proofs.Common.{◌≡◌, ℕ, zero, suc, ◌<◌, ◌≤◌, List, Some, length, refl, subst, arith, eq-eqb}
use Rattle.std.specs.List.{slice_get}
use Rattle.std.proofs.lemmas.Option.{none-some}
use Rattle.ft_types.specs.declared.module.Module.{Module}
use Rattle.ft_segments.specs.Packing.{id_at}
use Rattle.ft_segments.specs.Walk.{PatternIds, SampleIds, InstrumentIds, Placed, IsOf, ids_of, walk, is_it, pattern_uses, sample_uses, instrument_uses, pattern_walk, sample_walk, instrument_walk, patterns_in, instruments_in, samples_in}
use Rattle.ft_image.specs.Read.{HasPattern, HasInstrument}
use Rattle.ft_placed.proofs.Lists.{part_of_sum, below_at, length_below}

pub itself : (s : ℕ) → is_it s s ≡ 1
itself s = rw (eq-eqb s s refl) refl

pub root_walk : (p : Placed) → (ids_of p).root ≡ p.root
unfolding walk
root_walk p = refl

pub root_is : (p : Placed) (root : ℕ) → p.root ≡ root → IsOf p root
unfolding walk
root_is p root is = subst (IsOf p) is (let one = itself p.root in omega arith)

-- ---- patterns

pub pattern_count : (p : Placed) → length (ids_of p).patterns ≡ patterns_in p.pool p.root
unfolding walk
pattern_count p = length_below (patterns_in p.pool p.root) _

pub of_pattern : (p : Placed) (k s : ℕ) (ids : PatternIds) → slice_get (ids_of p).patterns k ≡ Some ids → 1 ≤ pattern_uses s ids → IsOf p s
of_pattern p k s ids is one =
    let part = part_of_sum (pattern_uses s) (ids_of p).patterns k ids is in omega arith

pub pattern_is : (p : Placed) (m : Module) (k found : ℕ) → HasPattern p m k found → IsOf p found
pattern_is p m k found has =
    let one = itself found in
    of_pattern p k found (pattern_walk p.pool m.channels found) has.named (omega arith)

-- ---- instruments

pub instrument_count : (p : Placed) → length (ids_of p).instruments ≡ instruments_in p.pool p.root
unfolding walk
instrument_count p = length_below (instruments_in p.pool p.root) _

pub of_instrument : (p : Placed) (k s : ℕ) (ids : InstrumentIds) → slice_get (ids_of p).instruments k ≡ Some ids
    → 1 ≤ instrument_uses s ids → IsOf p s
of_instrument p k s ids is one =
    let part = part_of_sum (instrument_uses s) (ids_of p).instruments k ids is in omega arith

pub instrument_is : (p : Placed) (m : Module) (number found : ℕ) → HasInstrument p m number found → IsOf p found
instrument_is p m zero found has = absurd (none-some (instrument_walk p.pool found) has.named)
instrument_is p m (suc k) found has =
    let one = itself found in
    of_instrument p k found (instrument_walk p.pool found) has.named (omega arith)

-- ---- samples

-- a sample's segments are its instrument's
pub of_sample : (s n : ℕ) (ids : InstrumentIds) (one : SampleIds) → slice_get ids.samples n ≡ Some one → 1 ≤ sample_uses s one
    → 1 ≤ instrument_uses s ids
of_sample s n ids one is lt =
    let part = part_of_sum (sample_uses s) ids.samples n one is in omega arith

pub sample_at_walk : (pool : List ℕ) (root n : ℕ) → n < samples_in pool root
    → slice_get (instrument_walk pool root).samples n ≡ Some (sample_walk pool (id_at pool root 30 n))
sample_at_walk pool root n lt = below_at (samples_in pool root) (λ i. sample_walk pool (id_at pool root 30 i)) n lt

pub sample_walk_root : (pool : List ℕ) (root : ℕ) → (sample_walk pool root).root ≡ root
unfolding sample_walk
sample_walk_root pool root = refl
