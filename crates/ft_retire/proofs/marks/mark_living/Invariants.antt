use Rattle.std.proofs.Common.{◌≡◌, ◌<◌, ◌≤◌, ◌+◌, ◌||◌, ℕ, true, length, get_or}
use Rattle.ft_retire.specs.Lives.{never, lives_at}
use Rattle.ft_retire.specs.Marks.{unmarked_in}
use Rattle.ft_retire.proofs.marks.mark_living.Given as goal

abbrev pub invariant-loop-k : goal.invariant-loop-k
invariant-loop-k l = record {
  many : length l.marks ≡ length l.fn.marks;
  few : l.count ≤ l.k;
  count : unmarked_in l.marks + l.count ≡ unmarked_in l.fn.marks;
  kept : (k : ℕ) → get_or l.fn.marks k true ≡ true → get_or l.marks k true ≡ true;
  before : (k : ℕ) → k < l.k → get_or l.marks k true ≡ (get_or l.fn.marks k true || lives_at (get_or l.segments k never) l.version);
  after : (k : ℕ) → l.k ≤ k → get_or l.marks k true ≡ get_or l.fn.marks k true;
}
