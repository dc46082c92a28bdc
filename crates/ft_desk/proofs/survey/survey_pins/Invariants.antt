use Rattle.std.proofs.Common.{◌≡◌, ◌<◌, ℕ}
use Rattle.ft_shared.specs.Account.{IsPinMet}
use Rattle.ft_desk.specs.Survey.{AreMarksOf, HasSeenPins}
use Rattle.ft_desk.proofs.survey.survey_pins.Given as goal

abbrev pub invariant-loop-reader : goal.invariant-loop-reader
invariant-loop-reader l = record {
  seen : HasSeenPins l.fn.pass l.pass;
  all : (r c : ℕ) → r < l.reader → c < l.channels → IsPinMet l.pass.account r c;
  lives : l.births.lives ≡ l.fn.births.lives;
  looked : l.births.looked ≡ l.fn.births.looked;
  marks : AreMarksOf l.shared.sizes.segments l.pass.account l.births;
}
