use Rattle.ft_shared.proofs.ReadWords.{fewer_reads}
use Rattle.ft_shared.proofs.reads.a_history_agrees_with_fewer_reads.Goals as goal

pub returns : goal.returns
returns c = fewer_reads
