use Rattle.std.proofs.Common.{◌≡◌, ◌≤◌, ◌<◌, ℕ, pos, ◌*ℤ◌, get_or}
use Rattle.ft_mix.specs.Mixing as mixing
use Rattle.ft_mix.proofs.reached.amplify.Given as goal

abbrev pub invariant-loop-frame : goal.invariant-loop-frame
invariant-loop-frame l = record {
  values : (k : ℕ) → k < l.frame-index → get_or l.frames k (pos 0) ≡ (pos 256 *ℤ get_or l.fn.frames k (pos 0));
  range : mixing.Fit16 l.frame-index l.frames;
  after : (k : ℕ) → l.frame-index ≤ k → get_or l.frames k (pos 0) ≡ get_or l.fn.frames k (pos 0);
}
