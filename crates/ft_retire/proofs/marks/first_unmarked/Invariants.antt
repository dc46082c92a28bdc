use Rattle.std.proofs.Common.{◌≡◌, ◌+◌}
use Rattle.ft_retire.specs.Marks.{AreMarked}
use Rattle.ft_retire.proofs.marks.first_unmarked.Given as goal

abbrev pub invariant-loop-segment : goal.invariant-loop-segment
invariant-loop-segment l = record {
  marked : AreMarked l.segment l.marks;
  count : l.fn.from + l.looked ≡ l.segment;
}
