use Rattle.std.proofs.Common.{◌≡◌, ◌≤◌, ◌<◌, ℕ, pos, length, get_or}
use Rattle.ft_mix.proofs.reached.silence.Given as goal

abbrev pub invariant-loop-k : goal.invariant-loop-k
invariant-loop-k l = record {
  before : (j : ℕ) → j < l.from → get_or l.values j (pos 0) ≡ get_or l.fn.values j (pos 0);
  silent : (j : ℕ) → l.from ≤ j → j < l.k → get_or l.values j (pos 0) ≡ pos 0;
  many : length l.values ≡ length l.fn.values;
}
