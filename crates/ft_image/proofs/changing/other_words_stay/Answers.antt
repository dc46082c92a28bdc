use Rattle.ft_image.proofs.OneChanged.{bytes_stay, ids_stay}
use Rattle.ft_image.proofs.changing.other_words_stay.Goals as goal

pub returns-clause-bytes : goal.returns-clause-bytes
returns-clause-bytes c = bytes_stay

pub returns-clause-ids : goal.returns-clause-ids
returns-clause-ids c = ids_stay
