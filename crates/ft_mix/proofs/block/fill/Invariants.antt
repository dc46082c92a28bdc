use Rattle.std.proofs.Common.{◌≡◌, ◌≤◌, ◌<◌, ◌+◌, ◌*◌, ◌/◌, ℕ, length}
use Rattle.std.specs.List.{sum_by}
use Rattle.ft_types.specs.declared.voice.SampleHead.{SampleHead}
use Rattle.ft_types.specs.Work as work_of
use Rattle.ft_replay.specs.Sound as sound
use Rattle.ft_mix.specs.Mixing as mixing
use Rattle.ft_mix.proofs.block.fill.Given as goal

abbrev pub invariant-loop-block : goal.invariant-loop-block
invariant-loop-block g l = record {
  frames : (w : g.row.V-World.Denot) → g.V.SongView.shows l.view w
      → g.V.SongView.shows l.fn.view w × (g.V.SongView.shown l.view w ≡ g.V.SongView.shown l.fn.view w)
      × ((k : ℕ) → k < 512 * l.block → k < l.frames
      → mixing.IsFrame (sound.voices_sum (sound.left_of k) (g.V.SongView.shown l.fn.view w).kept l.voices)
      (sound.voices_sum (sound.right_of k) (g.V.SongView.shown l.fn.view w).kept l.voices) k l.out);
  many : length l.out ≡ length l.fn.out;
  reached : length l.reached ≡ 1024;
  holds : g.V.SongView.holds l.view ≡ g.V.SongView.holds l.fn.view;
  keeps : (c : ℕ) (h : SampleHead) → g.V.SongView.keeps l.fn.view c h → g.V.SongView.keeps l.view c h;
  rising : g.V.SongView.work l.fn.view ≤ g.V.SongView.work l.view;
  work : (n : ℕ) → n ≤ 512 * l.block → (n < 512 * l.block → n ≡ l.frames) → n ≤ l.frames
      → g.V.SongView.work l.view ≤ g.V.SongView.work l.fn.view + length l.voices * (2 * work_of.frame_bound * n);
  whole : 512 * l.block ≤ l.frames
      → g.V.SongView.work l.view
      ≤ g.V.SongView.work l.fn.view + sum_by (mixing.cost_by (512 * l.block / 2) (6 * (512 * l.block))) l.voices;
  all : l.frames ≤ 512 * l.block
      → g.V.SongView.work l.view ≤ g.V.SongView.work l.fn.view + sum_by (mixing.tick_cost l.frames) l.voices;
  same : g.V.SongView.same l.fn.view l.view;
}
