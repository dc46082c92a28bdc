use Rattle.std.proofs.Common.{◌≡◌, ◌<◌, ◌/◌, ◌%◌, ℕ, get_or, length}
use Rattle.ft_image.specs.Values.{no_point}
use Rattle.ft_image.proofs.Instruments.{word_point}
use Rattle.ft_image.proofs.instrument_reading.points_from.Given as goal

abbrev pub invariant-loop-k : goal.invariant-loop-k
invariant-loop-k l = record {
  twelve : length l.points ≡ 12;
  made : (j : ℕ) → j < l.k → get_or l.points j no_point ≡ word_point (get_or l.words (j / 2) 0) (j % 2);
}
