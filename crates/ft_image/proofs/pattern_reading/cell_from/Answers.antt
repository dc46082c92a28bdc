use Rattle.ft_image.proofs.Found.{cell_back}
use Rattle.ft_image.proofs.pattern_reading.cell_from.Goals as goal

pub returns : goal.returns
returns c = λ one valid is. cell_back one c.args.word valid is
