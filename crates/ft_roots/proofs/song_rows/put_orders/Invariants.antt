use Rattle.std.proofs.Common.{◌≡◌, ◌<◌, ◌≤◌, ◌+◌, ◌⊎◌, ℕ, length}
use Rattle.std.specs.Prelude.{slice_index}
use Rattle.ft_segments.specs.Packing.{bytes_word}
use Rattle.ft_roots.proofs.song_rows.put_orders.Given as goal

abbrev pub invariant-loop-k : goal.invariant-loop-k
invariant-loop-k l = record {
  long : length l.words ≡ 256;
  put : (j : ℕ) → j < l.k → slice_index l.words (8 + j) ≡ bytes_word l.orders j;
  others : (j : ℕ) → (j < 8) ⊎ (40 ≤ j) → slice_index l.words j ≡ slice_index l.initial.words j;
}
