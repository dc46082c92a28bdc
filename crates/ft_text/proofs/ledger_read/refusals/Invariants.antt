-- what was read so far
use Rattle.std.proofs.Common.{◌≡◌, ℕ, All, length}
use Rattle.ft_text.specs.Record.{CanBeRefused}
use Rattle.ft_text.specs.LedgerWords.{said, refusal}
use Rattle.ft_text.proofs.ManyLines.{IsRead}
use Rattle.ft_text.proofs.ledger_read.refusals.Given as goal

abbrev pub decreases-loop-line : goal.decreases-loop-line
decreases-loop-line l = length l.lines.left

abbrev pub invariant-loop-line : goal.invariant-loop-line
invariant-loop-line l = record {
  so_far : IsRead {S = ℕ} (λ state. said (refusal l.form)) (λ state x. state) 0 0 l.initial.lines l.lines l.journal.refusals;
  others : l.journal.entries ≡ l.initial.journal.entries;
  given : All CanBeRefused l.journal.refusals;
}
