use Rattle.ft_tick.proofs.Ranges.{ended_in_range}
use Rattle.ft_tick.proofs.place.bring_within_orders.Goals as goal

pub returns-then-control-head-clause-range : goal.returns-then-control-head-clause-range
returns-then-control-head-clause-range c =
    λ p. ended_in_range c.args.channels.now c.set_position.new.channels c.set_position.ensures.channels p
