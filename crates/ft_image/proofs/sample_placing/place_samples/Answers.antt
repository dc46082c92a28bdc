use Rattle.std.proofs.Common.{◌<◌, ℕ, length, sym, subst, ◌∙◌, arith}
use Rattle.ft_types.specs.Blocks.{sample_blocks}
use Rattle.ft_segments.specs.Walk.{SampleIds}
use Rattle.ft_image.specs.Laid.{sample_laid}
use Rattle.ft_image.specs.Shown.{ShowsSample}
use Rattle.ft_image.proofs.Laying.{end_more, roots_more, shown_more}
use Rattle.ft_image.proofs.Stays.{sample_stays}
use Rattle.ft_image.proofs.sample_placing.place_samples.Goals as goal

pub loop-sample-preserved : goal.loop-sample-preserved
loop-sample-preserved c =
    let made = c.loop-sample.invariant in
    let k = c.loop-sample.sample-index in
    let x = c.sample-item.result in
    let xs = c.args.samples.now in
    let is = c.sample-item.is in
    let from = c.args.from in
    let lt : k < length xs = c.loop-sample-test.true in
    let more = end_more sample_blocks xs k x lt is in
    let next = made.next in
    record {
      long = c.place_sample-next.auto.words ∙ made.long;
      next = omega (arith, c.place_sample-next.ensures.next);
      kept = λ s j low high l. c.place_sample-next.ensures.kept s j low (omega arith) l ∙ made.kept s j low high l;
      roots = c.push.ensures.items ∙ rw (made.roots, next) (sym (roots_more sample_blocks sample_laid (λ
          (i : SampleIds). i.root) from xs k x lt is));
      shown = shown_more sample_blocks sample_laid ShowsSample sample_stays
          c.loop-sample.words c.place_sample-next.new.words from xs k x lt is
          (λ s j low high l. c.place_sample-next.ensures.kept s j low (omega arith) l)
          made.shown
          (subst (λ (n : ℕ). ShowsSample c.place_sample-next.new.words x (sample_laid n x)) next c.place_sample-next.ensures.shown);
    }
