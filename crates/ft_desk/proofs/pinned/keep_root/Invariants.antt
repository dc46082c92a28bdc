use Rattle.ft_image.specs.Passes.{HasMadeSteps}
use Rattle.ft_desk.specs.Survey.{HasMarked}
use Rattle.ft_desk.proofs.PinNames.{IsRootTo}
use Rattle.ft_desk.proofs.pinned.keep_root.Given as goal

abbrev pub invariant-loop-k : goal.invariant-loop-k
invariant-loop-k l = record {
  on : HasMadeSteps l.fn.pass l.pass;
  marked : HasMarked l.fn.births l.births (IsRootTo l.fn.pass.account.pool l.root l.k);
}
