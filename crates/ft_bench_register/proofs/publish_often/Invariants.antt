use Rattle.std.proofs.Common.{◌≡◌}
use Rattle.ft_segments.specs.Packing.{word_at}
use Rattle.ft_bench_register.proofs.publish_often.Given as goal

abbrev pub invariant-loop-done : goal.invariant-loop-done
invariant-loop-done l = record {
  same : l.writer.register ≡ l.fn.writer.register;
  version : l.writer.account.version ≡ l._done;
  bare : word_at l.writer.account.pool 0 1 ≡ 0;
}
