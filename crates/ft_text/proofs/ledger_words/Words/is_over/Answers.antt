use Rattle.ft_text.proofs.Cuts.{none_left}
use Rattle.ft_text.proofs.ledger_words.Words.is_over.Goals as goal

pub returns : goal.returns
returns c = none_left c.self.inside.left c.args.self.now c.is_none.result c.self.view_is c.is_none.ensures
