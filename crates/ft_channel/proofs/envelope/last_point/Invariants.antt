use Rattle.std.proofs.Common.{◌≡◌}
use Rattle.ft_replay.specs.Envelopes.{last_by}
use Rattle.ft_channel.proofs.envelope.last_point.Given as goal

abbrev pub invariant-loop-k : goal.invariant-loop-k
invariant-loop-k l = l.last ≡ last_by l.position l.points l.k
