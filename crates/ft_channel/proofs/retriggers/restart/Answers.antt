use Rattle.ft_channel.proofs.Staying.{restart_stays}
use Rattle.ft_channel.proofs.retriggers.restart.Goals as goal

pub returns-clause-stays : goal.returns-clause-stays
returns-clause-stays c = restart_stays c.args.channel.now c.in-Some.voice c.in-Some.is
