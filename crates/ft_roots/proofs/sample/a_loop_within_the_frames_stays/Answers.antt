use Rattle.ft_roots.proofs.Samples.{refitted_same}
use Rattle.ft_roots.proofs.sample.a_loop_within_the_frames_stays.Goals as goal

pub returns : goal.returns
returns c = refitted_same
