use Rattle.ft_image.proofs.Agreed.{pin-shown}
use Rattle.ft_image.proofs.pass_laws.a_pinned_sample_may_be_shown.Goals as goal

pub returns : goal.returns
returns c = pin-shown c.a_pin_holds_its_sample.ensures
