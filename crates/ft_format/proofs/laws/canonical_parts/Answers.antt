use Rattle.ft_format.proofs.Parts.{parts}
use Rattle.ft_format.proofs.laws.canonical_parts.Goals as goal

pub returns : goal.returns
returns c = parts
