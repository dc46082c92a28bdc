use Rattle.ft_out.proofs.Sound.{sound_bytes-append}
use Rattle.ft_out.proofs.laws.sound_bytes_law.Goals as goal

pub returns : goal.returns
returns c = sound_bytes-append
