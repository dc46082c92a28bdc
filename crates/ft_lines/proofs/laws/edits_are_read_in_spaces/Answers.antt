use Rattle.ft_lines.proofs.InSpaces.{edits_are_read_in_spaces}
use Rattle.ft_lines.proofs.laws.edits_are_read_in_spaces.Goals as goal

pub returns : goal.returns
returns c = edits_are_read_in_spaces
