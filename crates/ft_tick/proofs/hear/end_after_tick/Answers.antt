use Rattle.ft_tick.proofs.Hearings.{last_in_range}
use Rattle.ft_tick.proofs.hear.end_after_tick.Goals as goal

pub returns-clause-range : goal.returns-clause-range
returns-clause-range c = λ k r. last_in_range k c.args.channel.now c.in-Some.voice c.in-Some.is r
