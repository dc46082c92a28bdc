use Rattle.ft_image.proofs.Walks.{walks}
use Rattle.ft_image.proofs.laws.walk_finds_the_ids.Goals as goal

pub returns : goal.returns
returns c = walks
