use Rattle.ft_shared.proofs.SettledScan.{settled_finds}
use Rattle.ft_shared.proofs.free.a_settled_scan_finds_what_is_held.Goals as goal

pub returns : goal.returns
returns c = settled_finds c.held_by_a_pin_is_named.ensures
