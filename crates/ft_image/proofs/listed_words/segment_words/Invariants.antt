use Rattle.std.proofs.Common.{◌≡◌, ◌<◌, ℕ, get_or, length}
use Rattle.ft_segments.specs.Packing.{word_at}
use Rattle.ft_segments.specs.Walk.{Placed}
use Rattle.ft_image.proofs.listed_words.segment_words.Given as goal

abbrev pub invariant-loop-at : goal.invariant-loop-at
invariant-loop-at g l = record {
  long : length l.words ≡ 256;
  narrows : (p : Placed) (s : ℕ) → g.V.WordView.may_show l.view p s → g.V.WordView.may_show l.fn.view p s;
  answer : (p : Placed) → g.V.WordView.may_show l.view p l.segment → (k : ℕ) → k < l.at
      → get_or l.words k 0 ≡ word_at p.pool l.segment k;
  same : g.V.WordView.same l.fn.view l.view;
}
