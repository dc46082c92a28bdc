use Rattle.ft_channel.proofs.Staying.{stays_through}
use Rattle.ft_channel.proofs.effect.effect_start.Goals as goal

pub loop_start-requires-clause-memory : goal.loop_start-requires-clause-memory
loop_start-requires-clause-memory g c =
    (c.key_off_at.ensures.stays.range c.args.c (c.channel_start.ensures.stays.range c.args.c c.requires.range)).memory

pub returns-clause-stays : goal.returns-clause-stays
returns-clause-stays g c =
    stays_through _ _ _ c.channel_start.ensures.stays
    (stays_through _ _ _ c.key_off_at.ensures.stays c.loop_start.ensures.stays)
