use Rattle.ft_image.specs.PassLaws.{steps_nothing, steps_through}
use Rattle.ft_image.proofs.pass_laws.a_writer_steps_on.Goals as goal

pub returns-clause-nothing : goal.returns-clause-nothing
returns-clause-nothing c = steps_nothing

pub returns-clause-through : goal.returns-clause-through
returns-clause-through c = steps_through
