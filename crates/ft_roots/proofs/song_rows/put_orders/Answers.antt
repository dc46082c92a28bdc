use Rattle.std.proofs.Common.{◌+◌, ◌∙◌, ℕ, List, arith, inl, inr, refl}
use Rattle.ft_roots.proofs.Rows.{one_stays, one_put}
use Rattle.ft_image.specs.Values as values
use Rattle.ft_roots.proofs.song_rows.put_orders.Goals as goal

pub returns : goal.returns
unfolding values.head_word values.counts_word
returns c = λ m ps is valid has.
    let kept = c.loop-k.invariant in
    let end = c.loop-k-test.false in
    let words : List ℕ = c.args.words.now in
    let w = c.with_length.result in
    record {
      head = kept.others 0 (inl (omega arith)) ∙ one_put words 0 w (omega (arith, c.told-words))
          ∙ c.with_length.ensures m c.args.orders.now valid has.head refl;
      counts = kept.others 1 (inl (omega arith)) ∙ one_stays words 0 w 1 (λ e. absurd (omega (arith, e))) ∙ has.counts;
      name = λ k lt. kept.others (2 + k) (inl (omega (arith, lt))) ∙ one_stays words 0 w (2 + k) (λ e. absurd (omega (arith, e)))
          ∙ has.name k lt;
      tracker = λ k lt. kept.others (5 + k) (inl (omega (arith, lt))) ∙ one_stays words 0 w (5 + k) (λ e. absurd (omega (arith, e)))
          ∙ has.tracker k lt;
      orders = λ k lt. kept.put k (omega (arith, lt, end));
      pattern_ids = λ k lt. kept.others (40 + k) (inr (omega arith)) ∙ one_stays words 0 w (40 + k) (λ e. absurd (omega (arith, e)))
          ∙ has.pattern_ids k lt;
      instrument_ids = λ k lt. kept.others (104 + k) (inr (omega arith)) ∙ one_stays words 0 w (104 + k) (λ e. absurd (omega (arith, e)))
          ∙ has.instrument_ids k lt;
      others = λ k ge lt. kept.others k (inr (omega (arith, ge))) ∙ one_stays words 0 w k (λ e. absurd (omega (arith, e, ge)))
          ∙ has.others k ge lt;
    }
