use Rattle.std.proofs.Common.{◌≡◌, ◌≢◌, ◌<◌, ℕ, length}
use Rattle.ft_segments.specs.Packing.{word_at}
use Rattle.ft_segments.specs.Walk.{Placed}
use Rattle.ft_image.specs.Read.{MayShowAll}
use Rattle.ft_image.proofs.fill_view.fill_with.Given as goal

abbrev pub invariant-loop-j : goal.invariant-loop-j
invariant-loop-j g l = record {
  narrows : (p : Placed) (s : ℕ) → g.F.WordView.may_show l.words p s → g.F.WordView.may_show l.fn.words p s;
  may : (s : ℕ) → g.F.Fill.may_fill l.fn.words s → g.F.Fill.may_fill l.words s;
  filled : (p : Placed) → MayShowAll g.F.WordView.may_show l.words p → (j : ℕ) → j < l.j
      → g.C.Content.makes l.content p j (word_at (g.F.Fill.written l.words) l.segment j);
  others : (s j : ℕ) → s ≢ l.segment → j < 256
      → word_at (g.F.Fill.written l.words) s j ≡ word_at (g.F.Fill.written l.fn.words) s j;
  long : length (g.F.Fill.written l.words) ≡ length (g.F.Fill.written l.fn.words);
  rest : g.F.Fill.rest l.fn.words l.words;
}
