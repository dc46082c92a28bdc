use Rattle.std.proofs.Common.{◌≡◌, ℕ, ◌+◌, ◌<◌, ◌≤◌, Some, length, Contains}
use Rattle.ft_shared.specs.Account.{SlotsAreMet, IsPinMet, IsPinAnswer}
use Rattle.ft_shared_tests.specs.Scans.{IsLeft}
use Rattle.ft_shared_tests.proofs.scans.scan_reader.Given as goal

abbrev pub invariant-loop-channel : goal.invariant-loop-channel
invariant-loop-channel l = record {
  left : IsLeft l.fn.writer l.writer;
  met : SlotsAreMet l.shared.sizes l.writer.account;
  scan : l.writer.account.scan ≡ l.fn.writer.account.scan;
  room : length l.roots.items ≤ length l.fn.roots.items + l.channel;
  known : (r c root : ℕ) → IsPinAnswer l.writer.account r c (Some root) → Contains l.roots.items root;
  before : (r c : ℕ) → IsPinMet l.fn.writer.account r c → IsPinMet l.writer.account r c;
  all : (c : ℕ) → c < l.channel → IsPinMet l.writer.account l.reader c;
}
