use Rattle.std.proofs.Common.{◌≡◌}
use Rattle.ft_bench_register.proofs.look_often.Given as goal

abbrev pub invariant-loop : goal.invariant-loop
invariant-loop g l = l.reader.register ≡ l.fn.reader.register
