use Rattle.std.proofs.Common.{◌≡◌, ◌≤◌, ◌+◌, ◌-◌, ◌*◌, ℕ, None, length, get_or}
use Rattle.ft_types.specs.declared.voice.SampleHead.{SampleHead}
use Rattle.ft_types.specs.Work as work_of
use Rattle.ft_mix.specs.Mixing as mixing
use Rattle.ft_mix.proofs.reached.read_turns.Given as goal

abbrev pub invariant-loop-done : goal.invariant-loop-done
invariant-loop-done g l = record {
  within : l.done ≤ length l.fn.values;
  values : (w : g.row.V-World.Denot) → g.V.SongView.shows l.view w
      → g.V.SongView.shows l.fn.view w × (g.V.SongView.shown l.view w ≡ g.V.SongView.shown l.fn.view w)
      × mixing.AreReached l.head (get_or (g.V.SongView.shown l.fn.view w).kept l.channel None) l.at l.done l.values;
  range : mixing.Fit16 l.done l.values;
  many : length l.values ≡ length l.fn.values;
  holds : g.V.SongView.holds l.view ≡ g.V.SongView.holds l.fn.view;
  keeps : (c : ℕ) (h : SampleHead) → g.V.SongView.keeps l.fn.view c h → g.V.SongView.keeps l.view c h;
  work : (g.V.SongView.work l.fn.view ≤ g.V.SongView.work l.view)
      × (g.V.SongView.work l.view ≤ g.V.SongView.work l.fn.view + work_of.frame_bound * l.done);
  same : g.V.SongView.same l.fn.view l.view;
}

abbrev pub decreases-loop-done : goal.decreases-loop-done
decreases-loop-done g l = length l.initial.values - l.done
