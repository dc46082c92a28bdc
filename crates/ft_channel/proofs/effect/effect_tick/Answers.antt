use Rattle.ft_channel.proofs.Staying.{stays_through}
use Rattle.ft_channel.proofs.effect.effect_tick.Goals as goal

pub returns-clause-stays : goal.returns-clause-stays
returns-clause-stays g c = stays_through _ _ _ c.channel_tick.ensures.stays c.key_off_at.ensures.stays
