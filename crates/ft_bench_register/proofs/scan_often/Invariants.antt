use Rattle.std.proofs.Common.{◌≡◌}
use Rattle.ft_bench_register.proofs.scan_often.Given as goal

abbrev pub invariant-loop-done : goal.invariant-loop-done
invariant-loop-done l = record { same : l.writer.register ≡ l.fn.writer.register }
