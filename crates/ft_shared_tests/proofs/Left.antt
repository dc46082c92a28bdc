-- Scans after scans leave what a scan leaves.
use Rattle.std.proofs.Common.{◌∙◌}
use Rattle.ft_shared.specs.Pass.{WriterState}
use Rattle.ft_shared_tests.specs.Scans.{IsLeft}

pub left_through : (a b c : WriterState) → IsLeft a b → IsLeft b c → IsLeft a c
left_through a b c f g = record {
  register = g.register ∙ f.register;
  version = g.version ∙ f.version;
  history = g.history ∙ f.history;
  pool = g.pool ∙ f.pool;
  settled = g.settled ∙ f.settled;
}
