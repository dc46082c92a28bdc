use Rattle.std.proofs.Common.{◌≡◌, ◌<◌, ℕ}
use Rattle.ft_shared.specs.Account.{SlotsAreMet, IsPinMet}
use Rattle.ft_bench_register.proofs.scan_pins.Given as goal

abbrev pub invariant-loop-reader : goal.invariant-loop-reader
invariant-loop-reader l = record {
  same : l.writer.register ≡ l.fn.writer.register;
  met : SlotsAreMet l.shared.sizes l.writer.account;
  version : l.writer.account.version ≡ l.fn.writer.account.version;
  pool : l.writer.account.pool ≡ l.fn.writer.account.pool;
  all : (r c : ℕ) → r < l.reader → c < l.channels → IsPinMet l.writer.account r c;
}
