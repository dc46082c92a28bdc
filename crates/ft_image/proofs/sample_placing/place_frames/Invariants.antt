use Rattle.std.proofs.Common.{◌≡◌, ◌<◌, ◌+◌, ◌*◌, ℕ, length}
use Rattle.ft_segments.specs.Packing.{word_at}
use Rattle.ft_image.specs.Values.{frames_word}
use Rattle.ft_image.specs.Laid.{Keeps}
use Rattle.ft_image.proofs.sample_placing.place_frames.Given as goal

abbrev pub invariant-loop-body : goal.invariant-loop-body
invariant-loop-body l = record {
  long : length l.words ≡ length l.fn.words;
  kept : Keeps 0 l.from l.fn.words l.words;
  filled : (b j : ℕ) → b < l.body → j < 256 → word_at l.words (l.from + b) j ≡ frames_word l.frames (b * 256 + j);
}
