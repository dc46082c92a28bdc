use Rattle.ft_sharing.proofs.Refilled.{fresh_frames}
use Rattle.ft_sharing.proofs.laws.fresh_frames_are_in_order.Goals as goal

pub returns : goal.returns
returns c = fresh_frames
