-- the parts of the ledger, one after the other
use Rattle.std.proofs.Common.{◌∙◌, length, map, All, subst, ap}
use Rattle.ft_text.specs.Ledger.{ledger_text, ledger_lines, head_line, play_line, entry_line, refusal_line, tick_lines, hand_line, saved_lines, end_line}
use Rattle.ft_text.specs.Record.{ledger_account}
use Rattle.ft_text.specs.LedgerReading.{ledger_of}
use Rattle.ft_text.specs.LedgerBack.{AccountHasRanges, TickHasRanges, HandHasRanges}
use Rattle.ft_text.proofs.Joined.{parts, first_line}
use Rattle.ft_text.proofs.LedgerWhole.{whole_back, in_form_2}
use Rattle.ft_text.proofs.Typed.{entries_have, refusals_have}
use Rattle.ft_text.proofs.ledger.print_ledger.Goals as goal

pub returns-clause-text : goal.returns-clause-text
unfolding ledger_text ledger_lines
returns-clause-text c =
    let run = c.args.run.now in
    parts (head_line 2) (play_line run) (map entry_line c.args.journal.now.entries) (map (refusal_line 2) c.args.journal.now.refusals)
    (tick_lines 0 c.args.ticks.now) (map hand_line c.args.hands.now) (saved_lines c.args.saved)
    (end_line run.status (length c.args.ticks.now))
    c.in_ok-text.text.items c.put_play.new.text.items c.put_entries.new.text.items c.put_refusals.new.text.items c.put_ticks.new.text.items
    c.put_hands.new.text.items c.put_if_saved.new.text.items c.put_end.new.text.items
    (c.in_ok-text.ensures.items ∙ first_line)
    (c.in_ok-put_play.ensures.text) c.in_ok-put_entries.ensures.text c.in_ok-put_refusals.ensures.text
    (cc (c.in_ok-put_ticks.ensures.text, c.as_slice.ensures))
    (cc (c.in_ok-put_hands.ensures.text, c.as_slice-2.ensures)) c.in_ok-put_if_saved.ensures.text
    (cc (c.in_ok-put_end.ensures, c.len.ensures))

pub returns-clause-read : goal.returns-clause-read
returns-clause-read c batches =
    let account = ledger_account c.args.run.now c.args.journal.now c.args.ticks.now c.args.hands.now c.args.saved in
    let ranges : AccountHasRanges account = record {
      run = c.in_ok-put_play.ensures.ranges;
      entries = entries_have account.entries c.in_ok-put_entries.ensures.ranges c.requires.entries batches.entries;
      refusals = refusals_have account.refusals c.in_ok-put_refusals.ensures.ranges c.requires.refusals batches.refusals;
      ticks = subst (All TickHasRanges) c.as_slice.ensures c.in_ok-put_ticks.ensures.ranges;
      hands = subst (All HandHasRanges) c.as_slice-2.ensures c.in_ok-put_hands.ensures.ranges;
      saved = c.in_ok-put_if_saved.ensures.ranges;
    } in
    ap ledger_of (returns-clause-text c)
    ∙ whole_back c.known.ensures 2 account (in_form_2 c.known.ensures account c.requires ranges) c.requires ranges
