use Rattle.std.proofs.Common.{◌≡◌, ◌≤◌, ◌<◌, ◌+◌, ◌*◌, ◌+ℤ◌, ℕ, pos, length, get_or, drop}
use Rattle.std.specs.List.{sum_by}
use Rattle.ft_types.specs.declared.voice.SampleHead.{SampleHead}
use Rattle.ft_types.specs.Work as work_of
use Rattle.ft_replay.specs.Sound as sound
use Rattle.ft_mix.specs.Mixing as mixing
use Rattle.ft_mix.proofs.block.add_voices.Given as goal

abbrev pub invariant-loop-voice : goal.invariant-loop-voice
invariant-loop-voice g l = record {
  sums : (w : g.row.V-World.Denot) → g.V.SongView.shows l.view w
      → g.V.SongView.shows l.fn.view w × (g.V.SongView.shown l.view w ≡ g.V.SongView.shown l.fn.view w)
      × ((k : ℕ) → k < length l.fn.left
      → ((get_or l.left k (pos 0) +ℤ sound.voices_sum (sound.left_of (l.first + k)) (g.V.SongView.shown l.fn.view w).kept (drop l.voice-index l.voices))
      ≡ sound.voices_sum (sound.left_of (l.first + k)) (g.V.SongView.shown l.fn.view w).kept l.voices)
      × ((get_or l.right k (pos 0) +ℤ sound.voices_sum (sound.right_of (l.first + k)) (g.V.SongView.shown l.fn.view w).kept (drop l.voice-index l.voices))
      ≡ sound.voices_sum (sound.right_of (l.first + k)) (g.V.SongView.shown l.fn.view w).kept l.voices));
  left : mixing.AreLoud l.voice-index (length l.fn.left) l.left;
  right : mixing.AreLoud l.voice-index (length l.fn.left) l.right;
  many : length l.left ≡ length l.fn.left;
  both : length l.right ≡ length l.fn.right;
  values : length l.values ≡ length l.fn.left;
  room : length l.reached ≡ length l.fn.reached;
  holds : g.V.SongView.holds l.view ≡ g.V.SongView.holds l.fn.view;
  keeps : (c : ℕ) (h : SampleHead) → g.V.SongView.keeps l.fn.view c h → g.V.SongView.keeps l.view c h;
  work : (g.V.SongView.work l.fn.view ≤ g.V.SongView.work l.view)
      × (g.V.SongView.work l.view ≤ g.V.SongView.work l.fn.view + l.voice-index * (2 * work_of.frame_bound * length l.fn.left));
  cost : g.V.SongView.work l.view + sum_by (mixing.block_cost (length l.fn.left)) (drop l.voice-index l.voices)
      ≤ g.V.SongView.work l.fn.view + sum_by (mixing.block_cost (length l.fn.left)) l.voices;
  same : g.V.SongView.same l.fn.view l.view;
}
