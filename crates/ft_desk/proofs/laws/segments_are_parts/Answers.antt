use Rattle.ft_desk.proofs.Named.{segments_are_parts}
use Rattle.ft_desk.proofs.laws.segments_are_parts.Goals as goal

pub returns : goal.returns
returns c = segments_are_parts
