use Rattle.std.proofs.Common.{◌≡◌, ◌≤◌, ◌+◌, ◌*◌, ℕ, None, get_or}
use Rattle.ft_types.specs.declared.voice.SampleHead.{SampleHead}
use Rattle.ft_types.specs.Work as work_of
use Rattle.ft_mix.specs.Mixing as mixing
use Rattle.ft_mix.proofs.values.read_leaps.Given as goal

abbrev pub invariant-loop-value : goal.invariant-loop-value
invariant-loop-value g l = record {
  place : l.place ≡ l.position + l.value-index * l.voice.step;
  values : (w : g.row.V-World.Denot) → g.V.SongView.shows l.view w
      → g.V.SongView.shows l.fn.view w × (g.V.SongView.shown l.view w ≡ g.V.SongView.shown l.fn.view w)
      × mixing.AreValues l.voice.head (get_or (g.V.SongView.shown l.fn.view w).kept l.voice.channel None) l.position
      l.voice.step l.value-index l.values;
  range : mixing.Fit16 l.value-index l.values;
  holds : g.V.SongView.holds l.view ≡ g.V.SongView.holds l.fn.view;
  keeps : (c : ℕ) (h : SampleHead) → g.V.SongView.keeps l.fn.view c h → g.V.SongView.keeps l.view c h;
  work : (g.V.SongView.work l.fn.view ≤ g.V.SongView.work l.view)
      × (g.V.SongView.work l.view ≤ g.V.SongView.work l.fn.view + 2 * work_of.frame_bound * l.value-index);
  same : g.V.SongView.same l.fn.view l.view;
}
