use Rattle.std.proofs.Common.{◌≡◌, length}
use Rattle.ft_replay.specs.Range.{IsSongInRange}
use Rattle.ft_tick_tests.proofs.playing.plays_on.Given as goal

abbrev pub invariant-loop-value : goal.invariant-loop-value
invariant-loop-value g l = record {
  wide : l.state.used ≡ length (g.V.SongView.holds l.view);
  range : IsSongInRange l.state;
}
