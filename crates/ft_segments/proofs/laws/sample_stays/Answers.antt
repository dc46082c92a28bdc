use Rattle.ft_segments.proofs.Samples.{stays}
use Rattle.ft_segments.proofs.laws.sample_stays.Goals as goal

pub returns : goal.returns
returns c = stays
