use Rattle.ft_text.proofs.LinesGoOn.{read_is_written}
use Rattle.ft_text.proofs.ledger_laws.only_ledgers_are_read.Goals as goal

pub returns : goal.returns
returns c bytes account read = read_is_written c.known.ensures bytes account read
