use Rattle.ft_channel.proofs.Staying.{stays_through}
use Rattle.ft_channel.proofs.settings.remember_retrigger.Goals as goal

pub returns-clause-stays : goal.returns-clause-stays
returns-clause-stays c = stays_through _ _ _ c.remember.ensures.stays c.remember-2.ensures.stays
