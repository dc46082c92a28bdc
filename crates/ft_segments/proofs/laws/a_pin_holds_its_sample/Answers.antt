use Rattle.ft_segments.proofs.Named.{sample-held}
use Rattle.ft_segments.proofs.laws.a_pin_holds_its_sample.Goals as goal

pub returns : goal.returns
returns c = sample-held
