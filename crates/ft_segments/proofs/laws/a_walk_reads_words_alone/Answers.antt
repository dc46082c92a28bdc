use Rattle.ft_segments.proofs.Words.{walk-same}
use Rattle.ft_segments.proofs.laws.a_walk_reads_words_alone.Goals as goal

pub returns : goal.returns
returns c = walk-same
