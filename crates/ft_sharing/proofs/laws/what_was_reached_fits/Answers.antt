use Rattle.ft_sharing.proofs.Fitting.{reached_fits}
use Rattle.ft_sharing.proofs.laws.what_was_reached_fits.Goals as goal

pub returns : goal.returns
returns c = reached_fits
