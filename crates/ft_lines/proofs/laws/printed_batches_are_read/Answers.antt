use Rattle.ft_lines.proofs.LinesBack.{batches_are_read_back}
use Rattle.ft_lines.proofs.laws.printed_batches_are_read.Goals as goal

pub returns : goal.returns
returns c = batches_are_read_back
