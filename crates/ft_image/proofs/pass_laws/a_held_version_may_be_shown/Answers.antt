use Rattle.ft_image.proofs.Agreed.{held-shown, held-root}
use Rattle.ft_image.proofs.pass_laws.a_held_version_may_be_shown.Goals as goal

pub returns-clause-all : goal.returns-clause-all
returns-clause-all c = held-shown

pub returns-clause-root : goal.returns-clause-root
returns-clause-root c = held-root
