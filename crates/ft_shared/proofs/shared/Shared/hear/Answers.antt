use Rattle.std.proofs.Common.{rules, ap}
use Rattle.ft_shared.proofs.Joins.{hears}
use Rattle.ft_shared.proofs.shared.Shared.hear.Goals as goal

pub join_seat-requires : goal.join_seat-requires
join_seat-requires c = (
  search rules,
  search rules,
  search rules,
  search rules,
  hears c.self.inside.words.table.shared.key _ _ _ _
      (ap (λ m. m.0) c.pass.invariant.seat) (ap (λ m. m.0) c.place.ensures.1),
)
