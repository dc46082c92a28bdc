use Rattle.std.proofs.Common.{sym, ap, ◌∙◌}
use Rattle.std.specs.Prelude.{slice_get}
use Rattle.ft_check.proofs.Changes.{set_none}
use Rattle.ft_check.proofs.song.put.Goals as goal

pub returns-in-None : goal.returns-in-None
returns-in-None c =
    set_none c.args.at c.args.orders.now c.args.p
    (ap (slice_get c.args.orders.now) (sym c.from.ensures) ∙ sym c.in-None.ensures.value)
