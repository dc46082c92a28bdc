-- the hand at its place has the next line
use Rattle.std.proofs.lemmas.List.Elements.{All-more}
use Rattle.ft_text.specs.Ledger.{hand_line}
use Rattle.ft_text.specs.LedgerBack.{HandHasRanges}
use Rattle.ft_text.proofs.Joined.{item_line_more}
use Rattle.ft_text.proofs.ledger.put_hands.Goals as goal

pub loop-end-preserved : goal.loop-end-preserved
loop-end-preserved c = record {
  text = item_line_more hand_line c.args.hands.now c.loop-end.end-index _ c.args.text.now.items c.loop-end.text.items
      c.put_hand.new.text.items c.loop-end-test.true c.loop-end.invariant.text c.in_ok-put_hand.ensures.text;
  ranges = All-more HandHasRanges c.args.hands.now c.loop-end.end-index _ c.loop-end-test.true c.loop-end.invariant.ranges
      c.in_ok-put_hand.ensures.ranges;
}
