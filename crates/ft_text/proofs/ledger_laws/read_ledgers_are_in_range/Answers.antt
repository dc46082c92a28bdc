use Rattle.ft_text.proofs.LinesGoOn.{told_in_range}
use Rattle.ft_text.proofs.ledger_laws.read_ledgers_are_in_range.Goals as goal

pub returns : goal.returns
returns c = told_in_range c.known.ensures
