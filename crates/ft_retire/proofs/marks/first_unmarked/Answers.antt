use Rattle.std.proofs.Common.{arith}
use Rattle.ft_retire.proofs.Marking.{all_marked}
use Rattle.ft_retire.proofs.marks.first_unmarked.Goals as goal

pub returns-clause-none : goal.returns-clause-none
returns-clause-none c = λ _. all_marked c.args.marks.now c.loop-segment.segment (omega arith) c.loop-segment.invariant.marked
