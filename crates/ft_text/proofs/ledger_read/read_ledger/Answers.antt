-- each part can be written
use Rattle.std.proofs.Common.{sym, subst, All}
use Rattle.ft_text.specs.Record.{Ascend, CanBeEntered, HasHandCause}
use Rattle.ft_text.proofs.ledger_read.read_ledger.Goals as goal

pub returns-clause-tellable : goal.returns-clause-tellable
returns-clause-tellable c = record {
  status = c.in_ok-status.ensures.told;
  entries = subst (λ es. All CanBeEntered es) (sym c.in_ok-refusals.ensures.entries) c.in_ok-entries.ensures.given;
  refusals = c.in_ok-refusals.ensures.given;
  ascending = subst (λ hands. Ascend 0 hands) (sym c.from_vec-2.ensures) c.in_ok-hands.ensures.ascending;
  causes = subst (λ hands. All HasHandCause hands) (sym c.from_vec-2.ensures) c.in_ok-hands.ensures.causes;
}
