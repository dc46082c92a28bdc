use Rattle.std.proofs.Common.{◌≤◌, ◌<◌, length}
use Rattle.ft_replay.specs.Range.{IsChannelInRange}
use Rattle.ft_bench_rows.proofs.start_often.Given as goal

abbrev pub invariant-loop-done : goal.invariant-loop-done
invariant-loop-done g l = record {
  wide : 0 < length (g.V.SongView.holds l.view);
  range : IsChannelInRange 0 l.channel;
  row : l.control.row ≤ 255;
}
