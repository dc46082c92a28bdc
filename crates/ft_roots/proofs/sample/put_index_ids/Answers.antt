use Rattle.ft_roots.proofs.Samples.{ids_put}
use Rattle.ft_roots.proofs.sample.put_index_ids.Goals as goal

pub returns : goal.returns
returns c = λ x before has. ids_put c.args.words.now x before c.args.ids.now c.ids_word.result c.told-words c.ids_word.ensures has
