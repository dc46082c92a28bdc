use Rattle.std.proofs.Common.{◌∙◌, arith}
use Rattle.ft_replay.specs.Tick.{first_turn}
use Rattle.ft_tick.proofs.Kept.{keeps_then}
use Rattle.ft_tick.proofs.Lanes.{next_turn}
use Rattle.ft_tick.proofs.rows.start_all.Goals as goal

pub loop-c-preserved : goal.loop-c-preserved
loop-c-preserved g c = record {
  made = λ w is.
      let a = c.start_one.ensures.made w is in
      let b = c.loop-c.invariant.made w a.0 in
      (b.0, next_turn first_turn c.loop-c.c _ _ _ _ _ _ b.1 a.1);
  keeps = keeps_then _ _ _ _ _ _ _ _ _ c.loop-c.invariant.keeps c.start_one.ensures.keeps;
  range = c.start_one.ensures.range;
  playing = c.start_one.ensures.playing;
  place = (
    c.start_one.ensures.place.0 ∙ c.loop-c.invariant.place.0,
    c.start_one.ensures.place.1
        ∙ c.loop-c.invariant.place.1,
  );
  work = (omega arith, omega arith);
  same = g.met.V.SongView.same_through _ _ _ c.loop-c.invariant.same c.start_one.ensures.same;
}
