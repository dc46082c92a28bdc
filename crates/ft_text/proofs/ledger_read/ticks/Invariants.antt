-- what was read so far
use Rattle.std.proofs.Common.{ℕ, suc, length}
use Rattle.ft_text.specs.LedgerWords.{said, tick}
use Rattle.ft_text.proofs.ManyLines.{IsRead}
use Rattle.ft_text.proofs.ledger_read.ticks.Given as goal

abbrev pub decreases-loop-line : goal.decreases-loop-line
decreases-loop-line l = length l.lines.left

abbrev pub invariant-loop-line : goal.invariant-loop-line
invariant-loop-line l = IsRead {S = ℕ} (λ n. said (tick n)) (λ n x. suc n) 0 (length l.ticks.items) l.initial.lines l.lines l.ticks.items
