use Rattle.ft_image.specs.PassLaws.{reads_nothing, reads_through, counted_through}
use Rattle.ft_image.proofs.pass_laws.a_pass_reads_on.Goals as goal

pub returns-clause-nothing : goal.returns-clause-nothing
returns-clause-nothing c = reads_nothing

pub returns-clause-through : goal.returns-clause-through
returns-clause-through c = reads_through

pub returns-clause-counted : goal.returns-clause-counted
returns-clause-counted c = counted_through
