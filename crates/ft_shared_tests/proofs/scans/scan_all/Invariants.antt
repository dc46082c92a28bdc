use Rattle.std.proofs.Common.{◌≡◌, ℕ, ◌*◌, ◌<◌, ◌≤◌, Some, length, Contains}
use Rattle.ft_shared.specs.Account.{SlotsAreMet, IsPinMet, IsPinAnswer}
use Rattle.ft_shared_tests.specs.Scans.{IsLeft}
use Rattle.ft_shared_tests.proofs.scans.scan_all.Given as goal

abbrev pub invariant-loop-reader : goal.invariant-loop-reader
invariant-loop-reader l = record {
  left : IsLeft l.fn.writer l.writer;
  met : SlotsAreMet l.shared.sizes l.writer.account;
  scan : l.writer.account.scan ≡ l.answers.items;
  room : length l.roots.items ≤ l.reader * 2;
  known : (r c root : ℕ) → IsPinAnswer l.writer.account r c (Some root) → Contains l.roots.items root;
  all : (r c : ℕ) → r < l.reader → c < l.channels → IsPinMet l.writer.account r c;
}
