use Rattle.ft_segments.proofs.Pins.{pin-names}
use Rattle.ft_segments.proofs.laws.held_by_a_pin_is_named.Goals as goal

pub returns : goal.returns
returns c = pin-names
