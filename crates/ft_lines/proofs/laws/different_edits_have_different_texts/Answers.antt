use Rattle.ft_lines.proofs.LinesBack.{different_edits_have_different_texts}
use Rattle.ft_lines.proofs.laws.different_edits_have_different_texts.Goals as goal

pub returns : goal.returns
returns c = different_edits_have_different_texts
