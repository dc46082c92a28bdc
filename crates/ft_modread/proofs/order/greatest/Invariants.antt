use Rattle.std.proofs.Common.{◌≡◌, drop, max}
use Rattle.ft_modread.specs.Songs.{greatest}
use Rattle.ft_modread.proofs.order.greatest.Given as goal

abbrev pub invariant-loop-order : goal.invariant-loop-order
invariant-loop-order l = max l.most (greatest (drop l.order-index l.orders)) ≡ greatest l.orders
