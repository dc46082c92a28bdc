use Rattle.std.proofs.Common.{◌≡◌, ◌+◌, ℕ, arith, ap, inl, inr, ◌∙◌, get_or-set_other, ◌≢◌, rules}
use Rattle.std.proofs.lemmas.Grind.{get_or-set_at}
use Rattle.std.proofs.lemmas.Bool.{cases_lt}
use Rattle.std.proofs.lemmas.List.{length-set}
use Rattle.ft_segments.specs.Packing.{word_at}
use Rattle.ft_image.proofs.instrument_reading.six_words.Goals as goal

pub loop-k-preserved : goal.loop-k-preserved
loop-k-preserved g c =
    let kept = c.loop-k.invariant in
    let place = c.from.ensures in
    record {
      six = length-set c.loop-k.words c.from.result c.word.result ∙ kept.six;
      narrows = λ p s may. kept.narrows p s (c.word.ensures.narrows p s may);
      answer = λ p may k lt. elim (cases_lt k c.loop-k.k) [
        | inl below ↦
            let ne : k ≢ c.from.result = omega arith in
            get_or-set_other c.loop-k.words c.from.result k c.word.result 0 ne
            ∙ kept.answer p (c.word.ensures.narrows p c.args.segment may) k below
        | inr here ↦
            let e : k ≡ c.from.result = omega arith in
            let f : c.loop-k.k ≡ k = omega arith in
            get_or-set_at c.loop-k.words c.from.result k c.word.result 0 e (omega (arith, kept.six, c.loop-k-test.true, place))
            ∙ c.word.ensures.answer p may ∙ ap (λ (n : ℕ). word_at p.pool c.args.segment (c.args.first + n)) f
      ];
      work = search rules;
      same = g.met.V.WordView.same_through c.args.view.now c.loop-k.view c.word.new.self kept.same c.word.ensures.same;
    }
