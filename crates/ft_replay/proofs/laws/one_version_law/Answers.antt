use Rattle.ft_replay.proofs.OneVersion.{one_version}
use Rattle.ft_replay.proofs.laws.one_version_law.Goals as goal

pub returns : goal.returns
returns c = one_version
