use Rattle.ft_format.proofs.Valids.{spelled_valid}
use Rattle.ft_format.proofs.laws.spelled_is_valid.Goals as goal

pub returns : goal.returns
returns c = spelled_valid
