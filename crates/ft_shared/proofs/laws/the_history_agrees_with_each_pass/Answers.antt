use Rattle.ft_shared.proofs.Readers.{stands_behind}
use Rattle.ft_shared.proofs.laws.the_history_agrees_with_each_pass.Goals as goal

pub returns : goal.returns
returns c key state rule seat view hold at behind = (stands_behind key state rule seat view hold at behind).agrees
