-- the tick at n has the next line
use Rattle.std.proofs.lemmas.List.Elements.{All-more}
use Rattle.ft_text.specs.LedgerBack.{TickHasRanges}
use Rattle.ft_text.proofs.Joined.{tick_line_more}
use Rattle.ft_text.proofs.ledger.put_ticks.Goals as goal

pub loop-n-preserved : goal.loop-n-preserved
loop-n-preserved c = record {
  text = tick_line_more c.args.ticks.now c.loop-n.n _ c.args.text.now.items c.loop-n.text.items c.put_tick.new.text.items
      c.loop-n-test.true c.loop-n.invariant.text c.in_ok-put_tick.ensures.text;
  ranges = All-more TickHasRanges c.args.ticks.now c.loop-n.n _ c.loop-n-test.true c.loop-n.invariant.ranges
      c.in_ok-put_tick.ensures.ranges;
}
