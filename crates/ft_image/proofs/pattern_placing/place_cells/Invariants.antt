use Rattle.std.proofs.Common.{◌≡◌, ◌<◌, ◌+◌, ◌*◌, ℕ, get_or, length}
use Rattle.ft_types.specs.Views.{empty_cell}
use Rattle.ft_segments.specs.Packing.{word_at}
use Rattle.ft_image.specs.Values.{cell_word}
use Rattle.ft_image.specs.Laid.{Keeps}
use Rattle.ft_image.proofs.pattern_placing.place_cells.Given as goal

abbrev pub invariant-loop-body : goal.invariant-loop-body
invariant-loop-body l = record {
  long : length l.words ≡ length l.fn.words;
  kept : Keeps 0 l.from l.fn.words l.words;
  filled : (b j : ℕ) → b < l.body → j < 256
      → word_at l.words (l.from + b) j ≡ cell_word (get_or l.cells (b * 256 + j) empty_cell);
}
