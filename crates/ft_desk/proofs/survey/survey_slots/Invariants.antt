use Rattle.std.proofs.Common.{◌≡◌, ◌<◌, true, [], length}
use Rattle.ft_shared.specs.Account.{IsAnswered}
use Rattle.ft_shared.specs.Segments.{KeepsHeld}
use Rattle.ft_desk.specs.Survey.{AreMarksOf, HasScanned}
use Rattle.ft_desk.proofs.survey.survey_slots.Given as goal

abbrev pub invariant-loop-slot : goal.invariant-loop-slot
invariant-loop-slot l = record {
  scanned : HasScanned l.fn.pass l.pass;
  begun : l.pass.account.begun ≡ true;
  next : length l.pass.account.scan ≡ l.slot;
  pins : l.pass.account.pin_scan ≡ [];
  kept : 0 < l.slot → KeepsHeld l.pass.account;
  current : l.fn.pass.account.slot < l.slot → IsAnswered l.pass.account l.fn.pass.account.version;
  lives : l.births.lives ≡ l.fn.births.lives;
  looked : l.births.looked ≡ 0;
  marks : AreMarksOf l.shared.sizes.segments l.pass.account l.births;
}
