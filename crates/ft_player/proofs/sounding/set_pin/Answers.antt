use Rattle.ft_player.proofs.Played.{played_pin}
use Rattle.ft_player.proofs.sounding.set_pin.Goals as goal

pub returns-in-Some-clause-on : goal.returns-in-Some-clause-on
returns-in-Some-clause-on g c = played_pin c.args.pass.now c.pin.new.pass _ _ c.pin.ensures.noted

pub returns-in-None-clause-on : goal.returns-in-None-clause-on
returns-in-None-clause-on g c = played_pin c.args.pass.now c.unpin.new.pass _ _ c.unpin.ensures.noted
