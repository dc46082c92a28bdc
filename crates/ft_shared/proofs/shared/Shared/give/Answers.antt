use Rattle.std.proofs.Common.{rules, ap, arith}
use Rattle.ft_shared.proofs.Writes.{gives_one}
use Rattle.ft_shared.proofs.shared.Shared.give.Goals as goal

pub split_seat-requires : goal.split_seat-requires
split_seat-requires c = (
  search rules,
  search rules,
  gives_one c.self.inside.words.table.shared.key _ _
      (ap (λ m. m.0) c.requires.writer) _ c.requires.sizes (let n = c.requires.next in let m = c.requires.more in omega arith),
)
