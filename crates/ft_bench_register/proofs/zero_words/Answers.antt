use Rattle.std.proofs.Common.{zero, suc, ◌≡◌, ℕ, replicate, slice_index, refl, ap, ◌∙◌}
use Rattle.ft_segments.specs.Packing.{word_at}
use Rattle.ft_bench_register.proofs.zero_words.Goals as goal

zeros : (n k : ℕ) → let z : ℕ = 0 in slice_index (replicate n z) k ≡ z
zeros zero k = refl
zeros (suc n) zero = refl
zeros (suc n) (suc k) = zeros n k

pub returns-clause-bare : goal.returns-clause-bare
returns-clause-bare c = ap (λ l. word_at l 0 1) (c.in_ok-vec.ensures.items_if_clones_equal (λ y e. e)) ∙ zeros _ 1
