use Rattle.std.proofs.Common.{◌≡◌, length}
use Rattle.ft_replay.specs.Range.{IsSongInRange}
use Rattle.ft_tick_tests.proofs.playing.skip.Given as goal

abbrev pub invariant-loop-done : goal.invariant-loop-done
invariant-loop-done g l = record {
  wide : l.state.used ≡ length (g.V.SongView.holds l.view);
  range : IsSongInRange l.state;
}
