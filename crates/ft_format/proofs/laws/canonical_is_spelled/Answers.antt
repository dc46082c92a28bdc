use Rattle.ft_format.proofs.Songs.{canonical_spelled}
use Rattle.ft_format.proofs.laws.canonical_is_spelled.Goals as goal

pub returns : goal.returns
returns c = canonical_spelled
