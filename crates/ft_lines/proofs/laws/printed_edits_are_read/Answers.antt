use Rattle.ft_lines.proofs.LinesBack.{edits_are_read_back}
use Rattle.ft_lines.proofs.laws.printed_edits_are_read.Goals as goal

pub returns : goal.returns
returns c = edits_are_read_back
