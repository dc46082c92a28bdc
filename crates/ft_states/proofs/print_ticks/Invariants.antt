use Rattle.std.proofs.Common.{◌≡◌, length, map, is_some}
use Rattle.ft_replay.specs.Range.{IsSongInRange}
use Rattle.ft_states.proofs.print_ticks.Given as goal

abbrev pub invariant-loop : goal.invariant-loop
invariant-loop l = record {
  wide : l.state.used ≡ length (map is_some l.view.kept.items);
  range : IsSongInRange l.state;
}
