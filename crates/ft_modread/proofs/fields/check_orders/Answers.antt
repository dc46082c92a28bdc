use Rattle.std.proofs.Common.{sym, ap}
use Rattle.ft_modread.specs.ModFields.{order_fault}
use Rattle.ft_modread.proofs.fields.check_orders.Goals as goal

pub returns-in-Some : goal.returns-in-Some
returns-in-Some c = ap (order_fault c.args.orders.now) (sym c.in-Some.ensures.value)

pub returns-in-None : goal.returns-in-None
returns-in-None c = ap (order_fault c.args.orders.now) (sym c.in-None.ensures.value)
