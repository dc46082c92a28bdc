use Rattle.ft_segments.specs.Packing.{digit}
use Rattle.ft_desk.specs.Survey.{HasMarked}
use Rattle.ft_desk.proofs.Marked.{IsFirst}
use Rattle.ft_desk.proofs.pinned.keep_ids.Given as goal

abbrev pub invariant-loop-i : goal.invariant-loop-i
invariant-loop-i l = HasMarked l.fn.births l.births (IsFirst l.i (λ i. digit 65536 l.word i))
