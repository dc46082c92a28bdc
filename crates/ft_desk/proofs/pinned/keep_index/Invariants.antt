use Rattle.ft_image.specs.Passes.{HasMadeSteps}
use Rattle.ft_desk.specs.Survey.{HasMarked}
use Rattle.ft_desk.proofs.PinNames.{IsIndexTo}
use Rattle.ft_desk.proofs.pinned.keep_index.Given as goal

abbrev pub invariant-loop-place : goal.invariant-loop-place
invariant-loop-place l = record {
  on : HasMadeSteps l.fn.pass l.pass;
  marked : HasMarked l.fn.births l.births (IsIndexTo l.fn.pass.account.pool l.index l.count l.place);
}
