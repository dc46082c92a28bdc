use Rattle.ft_shared.proofs.Segments.{placed_in_order}
use Rattle.ft_shared.proofs.laws.a_version_is_found_by_its_number.Goals as goal

pub returns : goal.returns
returns c history first last root n placed is at = placed_in_order history first is.versions n placed at
