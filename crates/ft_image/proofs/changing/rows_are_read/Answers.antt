use Rattle.std.proofs.Common.{refl, ◌/◌}
use Rattle.ft_segments.specs.Packing.{bytes_word}
use Rattle.ft_image.proofs.Packed.{byte-read}
use Rattle.ft_image.proofs.OneChanged.{id_read}
use Rattle.ft_image.proofs.changing.rows_are_read.Goals as goal

pub returns-clause-bytes : goal.returns-clause-bytes
returns-clause-bytes c = λ row i are. byte-read row (bytes_word row (i / 8)) i are refl

pub returns-clause-ids : goal.returns-clause-ids
returns-clause-ids c = id_read
