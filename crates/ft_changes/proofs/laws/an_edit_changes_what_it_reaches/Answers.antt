use Rattle.ft_changes.proofs.EachEdit.{edit_reaches}
use Rattle.ft_changes.proofs.laws.an_edit_changes_what_it_reaches.Goals as goal

pub returns : goal.returns
returns c = edit_reaches
