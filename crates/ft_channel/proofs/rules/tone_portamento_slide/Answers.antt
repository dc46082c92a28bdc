use Rattle.ft_channel.proofs.Staying.{stays_through}
use Rattle.ft_channel.proofs.rules.tone_portamento_slide.Goals as goal

pub returns-clause-stays : goal.returns-clause-stays
returns-clause-stays c = stays_through _ _ _ c.tone_portamento.ensures.stays c.slide_volume.ensures.stays
