use Rattle.ft_words.proofs.One.{asks_one}
use Rattle.ft_words.proofs.laws.one_asked_law.Goals as goal

pub returns : goal.returns
returns c = asks_one
