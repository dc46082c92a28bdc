use Rattle.std.proofs.Common.{◌≡◌}
use Rattle.ft_player_tests.proofs.playing.plays_parted.Given as goal

abbrev pub invariant-loop-row : goal.invariant-loop-row
invariant-loop-row g l = (l.playing.pass.register ≡ l.shared) × (l.desk.writer.register ≡ l.shared)
