-- the lines of the entries that were passed are behind what was there
use Rattle.std.proofs.Common.{◌≡◌, ◌++◌, map, take, All}
use Rattle.ft_text.specs.Ledger.{joined_lines, entry_line}
use Rattle.ft_text.specs.LedgerBack.{EntryIsTyped}
use Rattle.ft_text.proofs.ledger.put_entries.Given as goal

abbrev pub invariant-loop-i : goal.invariant-loop-i
invariant-loop-i l = record {
  text : l.text.items ≡ l.initial.text.items ++ joined_lines (map entry_line (take l.i l.journal.entries));
  ranges : All EntryIsTyped (take l.i l.journal.entries);
}
