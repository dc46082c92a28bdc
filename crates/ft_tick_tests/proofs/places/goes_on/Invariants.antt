use Rattle.std.proofs.Common.{◌≡◌, length}
use Rattle.ft_replay.specs.Range.{IsSongInRange}
use Rattle.ft_tick_tests.proofs.places.goes_on.Given as goal

abbrev pub invariant-loop-order : goal.invariant-loop-order
invariant-loop-order g l = record {
  wide : l.state.used ≡ length (g.V.SongView.holds l.view);
  range : IsSongInRange l.state;
}
