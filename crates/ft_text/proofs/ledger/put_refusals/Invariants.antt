-- the lines of the refusals that were passed are behind what was there
use Rattle.std.proofs.Common.{◌≡◌, ◌++◌, map, take, All}
use Rattle.ft_text.specs.Ledger.{joined_lines, refusal_line}
use Rattle.ft_text.specs.LedgerBack.{RefusalIsTyped}
use Rattle.ft_text.proofs.ledger.put_refusals.Given as goal

abbrev pub invariant-loop-i : goal.invariant-loop-i
invariant-loop-i l = record {
  text : l.text.items ≡ l.initial.text.items ++ joined_lines (map (refusal_line 2) (take l.i l.journal.refusals));
  ranges : All RefusalIsTyped (take l.i l.journal.refusals);
}
