-- Roots that name themselves alone.
use Rattle.std.proofs.Common.{◌≡◌, ◌+◌, ◌<◌, ◌≤◌, ◌==◌, ℕ, List, sym, refl, subst, arith, if◌then◌else◌, sum_by, Bool, true, false, true-eqb}
use Rattle.ft_segments.specs.Packing.{digit, word_at, id_at}
use Rattle.ft_segments.specs.Walk.{each_below, channels_in, bodies_of_index, pattern_walk, index_walk, instrument_walk, sample_walk, walk, is_it, pattern_uses, index_uses, instrument_uses, sample_uses, uses, IsSound}
use Rattle.ft_types.specs.Blocks.{pieces_of}

pub song-bare : (pool : List ℕ) (root segment : ℕ) → word_at pool root 1 ≡ 0 → uses segment (walk pool root) ≡ is_it segment root
unfolding walk
song-bare pool root segment e = subst (λ (w : ℕ).
    is_it segment root
    + sum_by (pattern_uses segment) (each_below (digit 65536 w 0) (λ p. pattern_walk pool (channels_in pool root) (id_at pool root 40 p)))
    + sum_by (instrument_uses segment) (each_below (digit 65536 w 1) (λ i. instrument_walk pool (id_at pool root 104 i)))
    ≡ is_it segment root) (sym e) (omega arith)

pub sample-bare : (pool : List ℕ) (root segment : ℕ) → word_at pool root 0 ≡ 0
    → sample_uses segment (sample_walk pool root) ≡ is_it segment root
unfolding sample_walk
sample-bare pool root segment e = subst (λ (w : ℕ).
    is_it segment root
    + sum_by (index_uses segment) (each_below (pieces_of (pieces_of (digit 4294967296 w 0) 1024) 1024)
    (λ k. index_walk pool (bodies_of_index (pieces_of (digit 4294967296 w 0) 1024) k) (id_at pool root 16 k)))
    ≡ is_it segment root) (sym e) (omega arith)

one-at-most : (b : Bool) → (if b then 1 else 0) ≤ 1
one-at-most true = omega arith
one-at-most false = omega arith

is-root : (root segment : ℕ) (b : Bool) → (root == segment) ≡ b → 1 ≤ (if b then 1 else 0) → root ≡ segment
is-root root segment true e l = true-eqb root segment (sym e)
is-root root segment false e l = absurd (omega arith)

pub sound-bare : (pool : List ℕ) (root segments : ℕ) → word_at pool root 1 ≡ 0 → root < segments → IsSound segments (walk pool root)
sound-bare pool root segments e less = record {
  once = λ s. let u = song-bare pool root s e in let o = one-at-most (root == s) in omega arith;
  within = λ s l. let u = song-bare pool root s e in let r : root ≡ s = is-root root s (root == s) refl (omega arith) in omega arith;
}
