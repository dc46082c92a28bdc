use Rattle.ft_image.proofs.Kept.{shows_kept}
use Rattle.ft_image.proofs.laws.shown_stays.Goals as goal

pub returns : goal.returns
returns c = shows_kept
