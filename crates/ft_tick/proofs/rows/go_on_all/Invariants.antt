use Rattle.std.proofs.Common.{◌≤◌, ◌+◌, ◌*◌, length}
use Rattle.ft_replay.specs.Calls.{KeepsForAll}
use Rattle.ft_replay.specs.Range.{AreInRange, IsPlaying}
use Rattle.ft_replay.specs.Standing.{Made, state_of}
use Rattle.ft_replay.specs.Tick.{in_turn, later_turn}
use Rattle.ft_tick.specs.Bounds.{turn_bound}
use Rattle.ft_tick.proofs.rows.go_on_all.Given as goal

abbrev pub invariant-loop-c : goal.invariant-loop-c
invariant-loop-c g l = record {
  made : (w : g.row.V-World.Denot) → g.V.SongView.shows l.view w → g.V.SongView.shows l.fn.view w
      × Made (λ version song state. in_turn (later_turn version song) l.c state) (g.V.SongView.shown l.fn.view w)
      (g.V.SongView.shown l.view w)
      (state_of l.fn.control l.fn.channels (g.V.SongView.shown l.fn.view w))
      (state_of l.control l.channels (g.V.SongView.shown l.view w));
  keeps :
      KeepsForAll (g.V.SongView.keeps l.fn.view) (g.V.SongView.keeps l.view) (g.V.SongView.holds l.fn.view)
      (g.V.SongView.holds l.view) l.fn.channels l.channels;
  range : AreInRange l.channels;
  playing : IsPlaying (length l.channels) l.control;
  work :
      (g.V.SongView.work l.fn.view ≤ g.V.SongView.work l.view)
      × (g.V.SongView.work l.view ≤ g.V.SongView.work l.fn.view + l.c * turn_bound);
  same : g.V.SongView.same l.fn.view l.view;
}
