use Rattle.std.proofs.Common.{◌≡◌, ◌<◌, ◌+◌, ◌*◌, ℕ, get_or, length}
use Rattle.ft_types.specs.Views.{empty_cell}
use Rattle.ft_segments.specs.Packing.{word_at}
use Rattle.ft_segments.specs.Walk.{Placed}
use Rattle.ft_changes.specs.Laws.{named_in}
use Rattle.ft_image.specs.Values.{cell_word}
use Rattle.ft_image.specs.Read.{MayShowAll}
use Rattle.ft_songedit.proofs.pattern_edit.write_bodies.Given as goal

abbrev pub invariant-loop-at : goal.invariant-loop-at
invariant-loop-at g l = record {
  narrows : (p : Placed) (s : ℕ) → g.F.WordView.may_show l.words p s → g.F.WordView.may_show l.fn.words p s;
  may : (s : ℕ) → g.F.Fill.may_fill l.fn.words s → g.F.Fill.may_fill l.words s;
  written : (p : Placed) → MayShowAll g.F.WordView.may_show l.words p → (b j : ℕ) → 2 + b < l.at → j < 256
      → word_at (g.F.Fill.written l.words) (get_or l.fresh (2 + b) 0) j ≡ cell_word (get_or l.cells (b * 256 + j) empty_cell);
  others : (s j : ℕ) → named_in s l.fresh ≡ 0 → j < 256
      → word_at (g.F.Fill.written l.words) s j ≡ word_at (g.F.Fill.written l.fn.words) s j;
  root : (j : ℕ) → j < 256 → word_at (g.F.Fill.written l.words) (get_or l.fresh 0 0) j
      ≡ word_at (g.F.Fill.written l.fn.words) (get_or l.fresh 0 0) j;
  long : length (g.F.Fill.written l.words) ≡ length (g.F.Fill.written l.fn.words);
  rest : g.F.Fill.rest l.fn.words l.words;
}
