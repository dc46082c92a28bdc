use Rattle.std.proofs.Common.{rules, ap}
use Rattle.ft_shared.proofs.Joins.{makes_note}
use Rattle.ft_shared.proofs.shared.Shared.note.Goals as goal

pub split_seat-place-requires : goal.split_seat-place-requires
split_seat-place-requires c = (
  search rules,
  search rules,
  makes_note c.self.inside.words.table.shared.key _ _ (ap (λ m. m.0) c.pass.invariant.seat),
)
