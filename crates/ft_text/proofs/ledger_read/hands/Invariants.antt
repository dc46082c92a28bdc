-- what was read so far
use Rattle.std.proofs.Common.{◌≡◌, ◌+◌, ℕ, All, length}
use Rattle.ft_text.specs.Record.{Ascend, HasHandCause}
use Rattle.ft_text.proofs.Pushed.{next_hand}
use Rattle.ft_text.specs.LedgerWords.{said, hand}
use Rattle.ft_text.proofs.ManyLines.{IsRead}
use Rattle.ft_text.proofs.ledger_read.hands.Given as goal

abbrev pub decreases-loop-line : goal.decreases-loop-line
decreases-loop-line l = length l.lines.left

abbrev pub invariant-loop-line : goal.invariant-loop-line
invariant-loop-line l = record {
  so_far : IsRead {S = ℕ} (λ least. said (hand least)) (λ least end. end.hand + 1) 0 l.least l.initial.lines l.lines l.hands.items;
  least : l.least ≡ next_hand 0 l.hands.items;
  ascending : Ascend 0 l.hands.items;
  causes : All HasHandCause l.hands.items;
}
