use Rattle.ft_modread.proofs.Nearest.{is_nearest}
use Rattle.ft_modread.proofs.laws.notes_are_nearest.Goals as goal

pub returns : goal.returns
returns c = is_nearest
