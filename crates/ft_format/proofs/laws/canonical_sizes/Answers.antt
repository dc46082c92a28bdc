use Rattle.ft_format.proofs.Parts.{sizes}
use Rattle.ft_format.proofs.laws.canonical_sizes.Goals as goal

pub returns : goal.returns
returns c = sizes
