-- the lines of the hands that were passed are behind what was there
use Rattle.std.proofs.Common.{◌≡◌, ◌++◌, map, take, All}
use Rattle.ft_text.specs.Ledger.{joined_lines, hand_line}
use Rattle.ft_text.specs.LedgerBack.{HandHasRanges}
use Rattle.ft_text.proofs.ledger.put_hands.Given as goal

abbrev pub invariant-loop-end : goal.invariant-loop-end
invariant-loop-end l = record {
  text : l.text.items ≡ l.initial.text.items ++ joined_lines (map hand_line (take l.end-index l.hands));
  ranges : All HandHasRanges (take l.end-index l.hands);
}
