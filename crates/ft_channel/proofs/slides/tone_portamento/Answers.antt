use Rattle.ft_channel.proofs.slides.tone_portamento.Goals as goal

pub towards-channel-requires-clause-period : goal.towards-channel-requires-clause-period
towards-channel-requires-clause-period c = c.requires.period
