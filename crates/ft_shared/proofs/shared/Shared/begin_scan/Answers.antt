use Rattle.std.proofs.Common.{rules, ap}
use Rattle.ft_shared.proofs.Writes.{begins}
use Rattle.ft_shared.proofs.shared.Shared.begin_scan.Goals as goal

pub scan_load-requires : goal.scan_load-requires
scan_load-requires c = (search rules, search rules, begins c.self.inside.words.table.shared.key _ _ _ (ap (λ m. m.0) c.pass.invariant.seat))
