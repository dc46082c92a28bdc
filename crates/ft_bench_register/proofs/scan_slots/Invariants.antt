use Rattle.std.proofs.Common.{◌≡◌, true, length}
use Rattle.ft_bench_register.proofs.scan_slots.Given as goal

abbrev pub invariant-loop-k : goal.invariant-loop-k
invariant-loop-k l = record {
  same : l.writer.register ≡ l.fn.writer.register;
  begun : l.writer.account.begun ≡ true;
  next : length l.writer.account.scan ≡ l.k;
  version : l.writer.account.version ≡ l.fn.writer.account.version;
  pool : l.writer.account.pool ≡ l.fn.writer.account.pool;
}
