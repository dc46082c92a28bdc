use Rattle.std.proofs.Common.{◌≡◌, ◌<◌, ◌+◌, ◌*◌, ℕ, length}
use Rattle.std.specs.List.{range_with_len}
use Rattle.ft_segments.specs.Packing.{ids_word, word_at}
use Rattle.ft_segments.specs.Walk.{bodies_of_index}
use Rattle.ft_image.specs.Laid.{Keeps}
use Rattle.ft_image.proofs.sample_placing.place_indexes.Given as goal

abbrev pub invariant-loop-index : goal.invariant-loop-index
invariant-loop-index l = record {
  long : length l.words ≡ length l.fn.words;
  kept : Keeps 0 l.from l.fn.words l.words;
  filled : (k j : ℕ) → k < l.index → j < 256 → word_at l.words (l.from + k) j
      ≡ ids_word (range_with_len (l.from + l.indexes + 1024 * k) (bodies_of_index l.bodies k)) j;
}
