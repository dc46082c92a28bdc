use Rattle.std.proofs.Common.{◌≡◌, ◌<◌, ℕ}
use Rattle.ft_shared.specs.Account.{SlotsAreMet, IsPinMet}
use Rattle.ft_bench_register.proofs.scan_reader.Given as goal

abbrev pub invariant-loop-channel : goal.invariant-loop-channel
invariant-loop-channel l = record {
  same : l.writer.register ≡ l.fn.writer.register;
  met : SlotsAreMet l.shared.sizes l.writer.account;
  version : l.writer.account.version ≡ l.fn.writer.account.version;
  pool : l.writer.account.pool ≡ l.fn.writer.account.pool;
  before : (r c : ℕ) → IsPinMet l.fn.writer.account r c → IsPinMet l.writer.account r c;
  all : (c : ℕ) → c < l.channel → IsPinMet l.writer.account l.reader c;
}
