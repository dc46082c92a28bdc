-- the lines of the ticks that were passed are behind what was there
use Rattle.std.proofs.Common.{◌≡◌, ◌++◌, take, All}
use Rattle.ft_text.specs.Ledger.{joined_lines, tick_lines}
use Rattle.ft_text.specs.LedgerBack.{TickHasRanges}
use Rattle.ft_text.proofs.ledger.put_ticks.Given as goal

abbrev pub invariant-loop-n : goal.invariant-loop-n
invariant-loop-n l = record {
  text : l.text.items ≡ l.initial.text.items ++ joined_lines (tick_lines 0 (take l.n l.ticks));
  ranges : All TickHasRanges (take l.n l.ticks);
}
