use Rattle.std.proofs.Common.{◌≡◌, ◌<◌, ℕ}
use Rattle.ft_shared.specs.Account.{IsPinMet}
use Rattle.ft_desk.specs.Survey.{AreMarksOf, HasSeenPins}
use Rattle.ft_desk.proofs.survey.survey_reader.Given as goal

abbrev pub invariant-loop-channel : goal.invariant-loop-channel
invariant-loop-channel l = record {
  seen : HasSeenPins l.fn.pass l.pass;
  before : (r c : ℕ) → IsPinMet l.fn.pass.account r c → IsPinMet l.pass.account r c;
  all : (c : ℕ) → c < l.channel → IsPinMet l.pass.account l.reader c;
  lives : l.births.lives ≡ l.fn.births.lives;
  looked : l.births.looked ≡ l.fn.births.looked;
  marks : AreMarksOf l.shared.sizes.segments l.pass.account l.births;
}
