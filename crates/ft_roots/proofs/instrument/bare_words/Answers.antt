use Rattle.ft_roots.proofs.Instruments.{bare_has}
use Rattle.ft_roots.proofs.instrument.bare_words.Goals as goal

pub returns : goal.returns
returns c = bare_has
