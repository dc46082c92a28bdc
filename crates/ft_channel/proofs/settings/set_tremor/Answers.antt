use Rattle.ft_channel.proofs.Staying.{stays_through}
use Rattle.ft_channel.proofs.settings.set_tremor.Goals as goal

pub returns-clause-stays : goal.returns-clause-stays
returns-clause-stays c = stays_through _ _ _ c.remember.ensures.stays c.start_tremor.ensures.stays
