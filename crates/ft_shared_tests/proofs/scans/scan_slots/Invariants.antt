use Rattle.std.proofs.Common.{◌≡◌, true, [], length}
use Rattle.ft_shared_tests.specs.Scans.{IsLeft}
use Rattle.ft_shared_tests.proofs.scans.scan_slots.Given as goal

abbrev pub invariant-loop-slot : goal.invariant-loop-slot
invariant-loop-slot l = record {
  left : IsLeft l.fn.writer l.writer;
  begun : l.writer.account.begun ≡ true;
  next : length l.writer.account.scan ≡ l.slot;
  scan : l.writer.account.scan ≡ l.answers.items;
  none : l.writer.account.pin_scan ≡ [];
}
