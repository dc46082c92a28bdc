use Rattle.std.proofs.Common.{◌≡◌}
use Rattle.ft_player_tests.proofs.playing.plays.Given as goal

abbrev pub invariant-loop-row : goal.invariant-loop-row
invariant-loop-row g l = l.player.pass.register ≡ l.shared
