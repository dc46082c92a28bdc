-- the entry at i has the next line
use Rattle.std.proofs.Common.{rules, arith}
use Rattle.ft_text.specs.Ledger.{entry_line}
use Rattle.ft_text.specs.LedgerBack.{EntryIsTyped}
use Rattle.ft_text.proofs.Joined.{line_more, all_more, not_past}
use Rattle.ft_text.proofs.ledger.put_entries.Goals as goal
use Rattle.ft_text.proofs.ledger.put_entries.Goals.{in-Some+in_ok-put_entry, in_default}

pub loop-i-preserved : goal.loop-i-preserved
loop-i-preserved c = elim c.match-entry.branch [
  | in-Some+in_ok-put_entry w ↦ record {
    text = line_more entry_line c.args.journal.now.entries c.loop-i.i w.in-Some.entry.now
        c.args.text.now.items c.loop-i.text.items c.match-entry.text.items (search rules) c.loop-i.invariant.text
        (cc (w.in_ok-put_entry.ensures.text, w.text-is));
    ranges = all_more EntryIsTyped c.args.journal.now.entries c.loop-i.i w.in-Some.entry.now (search rules)
        c.loop-i.invariant.ranges w.in_ok-put_entry.ensures.ranges;
  }
  | in_default w ↦ absurd (not_past c.args.journal.now.entries c.loop-i.i (search rules) (omega (arith, c.entries-i-end.ensures)))
]
