use Rattle.std.proofs.Common.{◌≡◌, ◌<◌, ◌≤◌, ◌+◌, ◌⊎◌, ℕ, length}
use Rattle.std.specs.Prelude.{slice_index}
use Rattle.ft_segments.specs.Packing.{bytes_word}
use Rattle.ft_roots.proofs.song_rows.put_title.Given as goal

abbrev pub invariant-loop-k : goal.invariant-loop-k
invariant-loop-k l = record {
  long : length l.words ≡ 256;
  put : (j : ℕ) → j < l.k → slice_index l.words (2 + j) ≡ bytes_word l.name j;
  others : (j : ℕ) → (j < 2) ⊎ (5 ≤ j) → slice_index l.words j ≡ slice_index l.fn.words j;
}
