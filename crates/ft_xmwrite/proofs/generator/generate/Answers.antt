use Rattle.ft_xmwrite.specs.Generate.{generated}
use Rattle.ft_xmwrite.proofs.Generated.{generated_valid}
use Rattle.ft_xmwrite.proofs.generator.generate.Goals as goal

pub returns-clause-valid : goal.returns-clause-valid
unfolding generated
returns-clause-valid c =
    rw (
      c.in_ok-orders.ensures,
      c.in_ok-patterns.ensures.value,
      c.in_ok-instruments.ensures,
      c.in_ok-patterns.ensures.state,
      c.new-draws.ensures,
    ) (generated_valid c.args.number)
