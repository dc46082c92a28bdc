use Rattle.ft_edits.proofs.Allowed.{allowed}
use Rattle.ft_edits.proofs.laws.allowed_edits_name_what_is_there.Goals as goal

pub returns : goal.returns
returns c = allowed
