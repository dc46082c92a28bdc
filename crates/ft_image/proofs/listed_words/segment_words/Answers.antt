use Rattle.std.proofs.Common.{◌≡◌, ℕ, arith, ap, inl, inr, ◌∙◌, get_or-set_other, ◌≢◌}
use Rattle.std.proofs.lemmas.Grind.{get_or-set_at}
use Rattle.std.proofs.lemmas.Bool.{cases_lt}
use Rattle.std.proofs.lemmas.List.{length-set}
use Rattle.ft_segments.specs.Packing.{word_at}
use Rattle.ft_image.proofs.listed_words.segment_words.Goals as goal

pub loop-at-preserved : goal.loop-at-preserved
loop-at-preserved g c =
    let kept = c.loop-at.invariant in
    let place = c.from.ensures in
    record {
      long = length-set c.loop-at.words c.from.result c.word.result ∙ kept.long;
      narrows = λ p s may. kept.narrows p s (c.word.ensures.narrows p s may);
      answer = λ p may k lt. elim (cases_lt k c.loop-at.at) [
        | inl below ↦
            let ne : k ≢ c.from.result = omega arith in
            get_or-set_other c.loop-at.words c.from.result k c.word.result 0 ne
            ∙ kept.answer p (c.word.ensures.narrows p c.args.segment may) k below
        | inr here ↦
            let e : k ≡ c.from.result = omega arith in
            let f : c.loop-at.at ≡ k = omega arith in
            get_or-set_at c.loop-at.words c.from.result k c.word.result 0 e (omega (arith, kept.long, c.loop-at-test.true, place))
            ∙ c.word.ensures.answer p may ∙ ap (λ (n : ℕ). word_at p.pool c.args.segment n) f
      ];
      same = g.met.V.WordView.same_through c.args.view.now c.loop-at.view c.word.new.self kept.same c.word.ensures.same;
    }
