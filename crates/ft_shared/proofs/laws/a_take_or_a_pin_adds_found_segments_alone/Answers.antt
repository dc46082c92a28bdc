use Rattle.ft_shared.proofs.Found.{take_adds, pin_adds}
use Rattle.ft_shared.proofs.laws.a_take_or_a_pin_adds_found_segments_alone.Goals as goal

pub returns-clause-take : goal.returns-clause-take
returns-clause-take c = take_adds

pub returns-clause-pin : goal.returns-clause-pin
returns-clause-pin c = pin_adds
