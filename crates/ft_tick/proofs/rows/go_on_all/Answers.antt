use Rattle.std.proofs.Common.{arith}
use Rattle.ft_replay.specs.Tick.{later_turn}
use Rattle.ft_tick.proofs.Kept.{keeps_then}
use Rattle.ft_tick.proofs.Lanes.{next_turn}
use Rattle.ft_tick.proofs.rows.go_on_all.Goals as goal

pub loop-c-preserved : goal.loop-c-preserved
loop-c-preserved g c = record {
  made = λ w is.
      let a = c.go_on_one.ensures.made w is in
      let b = c.loop-c.invariant.made w a.0 in
      (b.0, next_turn later_turn c.loop-c.c _ _ _ _ _ _ b.1 a.1);
  keeps = keeps_then _ _ _ _ _ _ _ _ _ c.loop-c.invariant.keeps c.go_on_one.ensures.keeps;
  range = c.go_on_one.ensures.range;
  playing = c.go_on_one.ensures.playing;
  work = (omega arith, omega arith);
  same = g.met.V.SongView.same_through _ _ _ c.loop-c.invariant.same c.go_on_one.ensures.same;
}
