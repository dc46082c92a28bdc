use Rattle.std.specs.Prelude.{slice_index}
use Rattle.ft_roots.proofs.Samples.{loops_read}
use Rattle.ft_roots.proofs.sample.loop_len_in.Goals as goal

pub returns : goal.returns
returns c = λ x ids valid has. (loops_read x (slice_index c.args.words.now 1) valid has.loops).0
