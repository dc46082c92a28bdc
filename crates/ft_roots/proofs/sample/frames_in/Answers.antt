use Rattle.std.specs.Prelude.{slice_index}
use Rattle.ft_roots.proofs.Samples.{lengths_read}
use Rattle.ft_roots.proofs.sample.frames_in.Goals as goal

pub returns : goal.returns
returns c = λ x ids valid has. (lengths_read x (slice_index c.args.words.now 0) valid has.lengths).0
