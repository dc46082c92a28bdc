use Rattle.std.proofs.Common.{◌≡◌, ◌≤◌, ◌+◌, ◌++◌, ℕ, length, drop}
use Rattle.ft_types.specs.declared.voice.SampleHead.{SampleHead}
use Rattle.ft_replay.specs.Sound as sound
use Rattle.ft_mix.specs.Mixing.{SoundsOn}
use Rattle.ft_mix.proofs.settle.settle.Given as goal

abbrev pub invariant-loop-voice : goal.invariant-loop-voice
invariant-loop-voice g l = record {
  on : l.on.items ++ sound.voices_after l.frames (drop l.voice-index l.voices) ≡ sound.voices_after l.frames l.voices;
  few : length l.on.items ≤ l.voice-index;
  shown : (w : g.row.V-World.Denot) → g.V.SongView.shows l.view w → g.V.SongView.shows l.fn.view w
      × (sound.shown_after l.frames (drop l.voice-index l.voices) (g.V.SongView.shown l.view w) ≡ sound.shown_after l.frames l.voices (g.V.SongView.shown l.fn.view w));
  holds :
      sound.holds_after l.frames (drop l.voice-index l.voices) (g.V.SongView.holds l.view)
      ≡ sound.holds_after l.frames l.voices (g.V.SongView.holds l.fn.view);
  wide : length (g.V.SongView.holds l.view) ≡ length (g.V.SongView.holds l.fn.view);
  keeps : (c : ℕ) (h : SampleHead) → SoundsOn l.frames l.voices c → g.V.SongView.keeps l.fn.view c h
      → SoundsOn l.frames (drop l.voice-index l.voices) c × g.V.SongView.keeps l.view c h;
  work :
      (g.V.SongView.work l.fn.view ≤ g.V.SongView.work l.view)
      × (g.V.SongView.work l.view ≤ g.V.SongView.work l.fn.view + l.voice-index);
  same : g.V.SongView.same l.fn.view l.view;
}
