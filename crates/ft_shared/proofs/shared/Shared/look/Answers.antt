use Rattle.std.proofs.Common.{rules, ap}
use Rattle.ft_shared.proofs.Readers.{looks}
use Rattle.ft_shared.proofs.shared.Shared.look.Goals as goal

pub load-word-requires : goal.load-word-requires
load-word-requires g c = (
  search rules,
  search rules,
  looks c.self.inside.words.table.shared.key _ _ _
      (ap (λ m. m.0) c.pass.invariant.seat),
)
