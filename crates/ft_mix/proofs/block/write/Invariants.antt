use Rattle.std.proofs.Common.{◌≡◌, ℕ, ◌<◌, ◌+◌, ◌*◌, length, get_or, pos}
use Rattle.ft_mix.specs.Mixing.{IsFrame}
use Rattle.ft_mix.proofs.block.write.Given as goal

abbrev pub invariant-loop-k : goal.invariant-loop-k
invariant-loop-k l = record {
  frames : (k : ℕ) → k < l.k → IsFrame (get_or l.left k (pos 0)) (get_or l.right k (pos 0)) (l.first + k) l.out;
  before : (j : ℕ) → j < 2 * l.first → get_or l.out j (pos 0) ≡ get_or l.fn.out j (pos 0);
  many : length l.out ≡ length l.fn.out;
}
