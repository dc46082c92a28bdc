use Rattle.std.proofs.Common.{◌≡◌, ◌<◌, ◌+◌, ℕ, get_or, length}
use Rattle.ft_types.specs.declared.pattern.Cell.{Cell}
use Rattle.ft_types.specs.Valid.{IsValidCell}
use Rattle.ft_types.specs.Views.{empty_cell}
use Rattle.ft_segments.specs.Packing.{word_at}
use Rattle.ft_segments.specs.Walk.{Placed}
use Rattle.ft_image.specs.Values.{cell_word}
use Rattle.ft_songedit.proofs.pattern_cells.read_body.Given as goal

abbrev pub invariant-loop-j : goal.invariant-loop-j
invariant-loop-j g l = record {
  long : length l.cells ≡ 8192;
  narrows : (p : Placed) (s : ℕ) → g.V.WordView.may_show l.view p s → g.V.WordView.may_show l.fn.view p s;
  read : (p : Placed) → g.V.WordView.may_show l.view p l.segment → (j : ℕ) (c : Cell) → j < l.j
      → IsValidCell c → word_at p.pool l.segment j ≡ cell_word c → get_or l.cells (l.first + j) empty_cell ≡ c;
  before : (n : ℕ) → n < l.first → get_or l.cells n empty_cell ≡ get_or l.fn.cells n empty_cell;
  same : g.V.WordView.same l.fn.view l.view;
}
