use Rattle.ft_image.proofs.Agreed.{agreed-before}
use Rattle.ft_image.proofs.pass_laws.a_history_agreed_before.Goals as goal

pub returns : goal.returns
returns c = agreed-before c.a_history_agrees_with_fewer_reads.ensures
