use Rattle.ft_image.proofs.Counted.{song_count}
use Rattle.ft_image.proofs.laws.shown_has_blocks.Goals as goal

pub returns : goal.returns
returns c = song_count
