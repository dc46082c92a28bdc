use Rattle.std.proofs.Common.{◌+◌, ◌∙◌, arith, inl, inr}
use Rattle.ft_image.specs.Values as values
use Rattle.ft_roots.proofs.song_rows.put_title.Goals as goal

pub returns : goal.returns
unfolding values.head_word values.counts_word
returns c = λ m ps is has.
    let kept = c.loop-k.invariant in
    let end = c.loop-k-test.false in
    record {
      head = kept.others 0 (inl (omega arith)) ∙ has.head;
      counts = kept.others 1 (inl (omega arith)) ∙ has.counts;
      name = λ k lt. kept.put k (omega (arith, lt, end));
      tracker = λ k lt. kept.others (5 + k) (inr (omega arith)) ∙ has.tracker k lt;
      orders = λ k lt. kept.others (8 + k) (inr (omega arith)) ∙ has.orders k lt;
      pattern_ids = λ k lt. kept.others (40 + k) (inr (omega arith)) ∙ has.pattern_ids k lt;
      instrument_ids = λ k lt. kept.others (104 + k) (inr (omega arith)) ∙ has.instrument_ids k lt;
      others = λ k ge lt. kept.others k (inr (omega (arith, ge))) ∙ has.others k ge lt;
    }
