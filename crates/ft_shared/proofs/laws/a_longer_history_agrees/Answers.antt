use Rattle.ft_shared.proofs.Publish.{agrees_longer}
use Rattle.ft_shared.proofs.laws.a_longer_history_agrees.Goals as goal

pub returns : goal.returns
returns c = agrees_longer
