use Rattle.ft_changes.proofs.Balance.{balance}
use Rattle.ft_changes.proofs.Gone.{were_used}
use Rattle.ft_changes.proofs.laws.segments_balance.Goals as goal

pub returns-clause-balance : goal.returns-clause-balance
returns-clause-balance c = balance

pub returns-clause-dropped : goal.returns-clause-dropped
returns-clause-dropped c = were_used
