use Rattle.ft_text.proofs.Cuts.{all_left}
use Rattle.ft_text.proofs.ledger_words.Words.rest.Goals as goal

pub returns-in-Some : goal.returns-in-Some
returns-in-Some c = all_left c.self.inside.left c.in-Some.line c.args.self.now c.self.view_is c.in-Some.is
