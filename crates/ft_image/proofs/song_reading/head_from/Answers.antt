use Rattle.ft_image.proofs.Found.{song_head_read}
use Rattle.ft_image.proofs.song_reading.head_from.Goals as goal

pub returns : goal.returns
returns c = λ m valid is. song_head_read m c.args.word valid is
