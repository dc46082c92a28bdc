-- there is always a part
use Rattle.ft_text.proofs.Cuts.{no_part}
use Rattle.ft_text.proofs.ledger_batches.edits_of.Goals as goal

pub returns-in_default : goal.returns-in_default
returns-in_default c = absurd (no_part 59 c.args.text.now c.in_default.ensures)
