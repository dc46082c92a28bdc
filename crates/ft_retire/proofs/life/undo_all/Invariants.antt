use Rattle.std.proofs.Common.{◌≡◌, ℕ, ◌<◌, ◌≤◌, length, get_or}
use Rattle.ft_retire.specs.Lives.{never, undone}
use Rattle.ft_retire.proofs.life.undo_all.Given as goal

abbrev pub invariant-loop-life : goal.invariant-loop-life
invariant-loop-life l = record {
  many : length l.segments ≡ length l.fn.segments;
  before : (k : ℕ) → k < l.life-index → get_or l.segments k never ≡ undone l.version (get_or l.fn.segments k never);
  after : (k : ℕ) → l.life-index ≤ k → get_or l.segments k never ≡ get_or l.fn.segments k never;
}
