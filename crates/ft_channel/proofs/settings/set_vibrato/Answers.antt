use Rattle.ft_channel.proofs.Staying.{stays_through}
use Rattle.ft_channel.proofs.settings.set_vibrato.Goals as goal

pub returns-clause-stays : goal.returns-clause-stays
returns-clause-stays c = stays_through _ _ _ c.set_vibrato_speed.ensures.stays c.set_vibrato_depth.ensures.stays
