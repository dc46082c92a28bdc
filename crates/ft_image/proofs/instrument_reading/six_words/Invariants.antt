use Rattle.std.proofs.Common.{◌≡◌, ◌≤◌, ◌<◌, ◌+◌, ℕ, get_or, length}
use Rattle.ft_segments.specs.Packing.{word_at}
use Rattle.ft_segments.specs.Walk.{Placed}
use Rattle.ft_image.proofs.instrument_reading.six_words.Given as goal

abbrev pub invariant-loop-k : goal.invariant-loop-k
invariant-loop-k g l = record {
  six : length l.words ≡ 6;
  narrows : (p : Placed) (s : ℕ) → g.V.WordView.may_show l.view p s → g.V.WordView.may_show l.fn.view p s;
  answer : (p : Placed) → g.V.WordView.may_show l.view p l.segment → (k : ℕ) → k < l.k
      → get_or l.words k 0 ≡ word_at p.pool l.segment (l.first + k);
  work : (g.V.WordView.work l.fn.view ≤ g.V.WordView.work l.view) × (g.V.WordView.work l.view ≤ g.V.WordView.work l.fn.view + l.k);
  same : g.V.WordView.same l.fn.view l.view;
}
