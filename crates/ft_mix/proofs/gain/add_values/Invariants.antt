use Rattle.std.proofs.Common.{◌≡◌, ◌≤◌, ℕ, pos, length, get_or}
use Rattle.ft_mix.specs.Mixing as mixing
use Rattle.ft_mix.proofs.gain.add_values.Given as goal

abbrev pub invariant-loop-k : goal.invariant-loop-k
invariant-loop-k l = record {
  left : mixing.HaveAdded l.left_gain l.values l.fn.left l.left l.k;
  right : mixing.HaveAdded l.right_gain l.values l.fn.right l.right l.k;
  left_after : (j : ℕ) → l.k ≤ j → get_or l.left j (pos 0) ≡ get_or l.fn.left j (pos 0);
  right_after : (j : ℕ) → l.k ≤ j → get_or l.right j (pos 0) ≡ get_or l.fn.right j (pos 0);
  many : length l.left ≡ length l.fn.left;
  both : length l.right ≡ length l.fn.right;
}
