-- the refusal at i has the next line
use Rattle.std.proofs.Common.{rules, arith}
use Rattle.ft_text.specs.Ledger.{refusal_line}
use Rattle.ft_text.specs.LedgerBack.{RefusalIsTyped}
use Rattle.ft_text.proofs.Joined.{line_more, all_more, not_past}
use Rattle.ft_text.proofs.ledger.put_refusals.Goals as goal
use Rattle.ft_text.proofs.ledger.put_refusals.Goals.{in-Some+in_ok-put_refusal, in_default}

pub loop-i-preserved : goal.loop-i-preserved
loop-i-preserved c = elim c.match-refusal.branch [
  | in-Some+in_ok-put_refusal w ↦ record {
    text = line_more (refusal_line 2) c.args.journal.now.refusals c.loop-i.i w.in-Some.refusal.now
        c.args.text.now.items c.loop-i.text.items c.match-refusal.text.items (search rules) c.loop-i.invariant.text
        (cc (w.in_ok-put_refusal.ensures.text, w.text-is));
    ranges = all_more RefusalIsTyped c.args.journal.now.refusals c.loop-i.i w.in-Some.refusal.now (search rules)
        c.loop-i.invariant.ranges w.in_ok-put_refusal.ensures.ranges;
  }
  | in_default w ↦ absurd (not_past c.args.journal.now.refusals c.loop-i.i (search rules) (omega (arith, c.refusals-i-end.ensures)))
]
