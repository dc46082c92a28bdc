use Rattle.ft_roots.proofs.Samples.{new_has}
use Rattle.ft_roots.proofs.sample.new_sample_words.Goals as goal

pub returns : goal.returns
returns c = new_has
