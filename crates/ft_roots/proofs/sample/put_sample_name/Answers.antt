use Rattle.ft_roots.proofs.Samples.{name_changed}
use Rattle.ft_roots.proofs.sample.put_sample_name.Goals as goal

pub returns : goal.returns
returns c = λ x ids has. rw c.put_name.ensures (name_changed c.args.words.now x ids c.args.name.now c.told-words has)
