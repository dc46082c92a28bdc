use Rattle.ft_play.proofs.Whole.{joined}
use Rattle.ft_play.proofs.laws.sounds_agree_law.Goals as goal

pub returns : goal.returns
returns c = λ song shown frames range room.
    (joined song.used frames song.control song.channels song.voices.items shown range room).sound
