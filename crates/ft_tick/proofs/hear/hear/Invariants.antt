use Rattle.std.proofs.Common.{◌≡◌, ◌≤◌, ◌+◌, ◌*◌, ◌++◌, ℕ, map, take, drop}
use Rattle.ft_types.specs.declared.voice.SampleHead.{SampleHead}
use Rattle.ft_tick.specs.Bounds.{hear_bound}
use Rattle.ft_replay.specs.Calls.{KeepsForAll}
use Rattle.ft_replay.specs.Hearing.{heard_channel}
use Rattle.ft_replay.specs.Range.{AreInRange}
use Rattle.ft_tick.proofs.hear.hear.Given as goal

abbrev pub invariant-loop-c : goal.invariant-loop-c
invariant-loop-c g l = record {
  shows : (w : g.row.V-World.Denot) → g.V.SongView.shows l.view w
      → g.V.SongView.shows l.fn.view w × (g.V.SongView.shown l.view w ≡ g.V.SongView.shown l.fn.view w);
  value : (w : g.row.V-World.Denot) → g.V.SongView.shows l.view w → l.channels
      ≡ map (heard_channel l.rate l.control (g.V.SongView.shown l.fn.view w).song) (take l.c l.fn.channels)
      ++ drop l.c l.fn.channels;
  range : AreInRange l.channels;
  keeps_all :
      KeepsForAll (g.V.SongView.keeps l.fn.view) (g.V.SongView.keeps l.view) (g.V.SongView.holds l.fn.view)
      (g.V.SongView.holds l.view) l.fn.channels l.channels;
  holds : g.V.SongView.holds l.view ≡ g.V.SongView.holds l.fn.view;
  keeps : (d : ℕ) (h : SampleHead) → g.V.SongView.keeps l.fn.view d h → g.V.SongView.keeps l.view d h;
  work :
      (g.V.SongView.work l.fn.view ≤ g.V.SongView.work l.view)
      × (g.V.SongView.work l.view ≤ g.V.SongView.work l.fn.view + l.c * hear_bound);
  same : g.V.SongView.same l.fn.view l.view;
}
