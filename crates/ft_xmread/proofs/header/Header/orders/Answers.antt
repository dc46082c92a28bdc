use Rattle.std.proofs.Common.{rules, arith}
use Rattle.ft_format.specs.Header.{length_of}
use Rattle.ft_xmread.proofs.Orders.{orders_are}
use Rattle.ft_xmread.proofs.header.Header.orders.Goals as goal

pub returns-clause-value : goal.returns-clause-value
returns-clause-value c =
    orders_are c.args.self.now.orders.now c.extend_from_slice.new.self.items c.resize.new.self.items
    (length_of c.args.self.now.sizes) (omega (arith, c.requires.orders)) (search rules) (search rules)
