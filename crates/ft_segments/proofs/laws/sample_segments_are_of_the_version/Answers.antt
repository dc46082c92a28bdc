use Rattle.ft_segments.proofs.Samples.{of_it}
use Rattle.ft_segments.proofs.laws.sample_segments_are_of_the_version.Goals as goal

pub returns : goal.returns
returns c = of_it
