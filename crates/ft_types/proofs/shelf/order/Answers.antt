use Rattle.std.proofs.Common.{◌∙◌, ap, ℕ, get_or}
use Rattle.ft_types.proofs.Orders.{past_orders}
use Rattle.ft_types.proofs.shelf.order.Goals as goal

pub returns-in-None : goal.returns-in-None
returns-in-None c =
    past_orders c.args.song.now.orders c.from.result c.in-None.ensures
    ∙ ap (λ (i : ℕ). get_or c.args.song.now.orders i 0) c.from.ensures
