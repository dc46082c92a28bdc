use Rattle.std.proofs.Common.{◌<◌, ℕ, List, length, sym, subst, ◌∙◌, arith}
use Rattle.ft_types.specs.Blocks.{pattern_blocks}
use Rattle.ft_segments.specs.Walk.{PatternIds}
use Rattle.ft_image.specs.Laid.{pattern_laid}
use Rattle.ft_image.specs.Shown.{ShowsPattern}
use Rattle.ft_image.proofs.Laying.{end_more, roots_more, shown_more}
use Rattle.ft_image.proofs.Stays.{pattern_stays}
use Rattle.ft_image.proofs.pattern_placing.place_patterns.Goals as goal

pub loop-pattern-preserved : goal.loop-pattern-preserved
loop-pattern-preserved c =
    let made = c.loop-pattern.invariant in
    let k = c.loop-pattern.pattern-index in
    let x = c.pattern-item.result in
    let xs = c.args.patterns.now in
    let is = c.pattern-item.is in
    let size = pattern_blocks c.args.channels in
    let ids = pattern_laid c.args.channels in
    let from = c.args.from in
    let lt : k < length xs = c.loop-pattern-test.true in
    let more = end_more size xs k x lt is in
    let next = made.next in
    record {
      long = c.place_pattern-next.auto.words ∙ made.long;
      next = omega (arith, c.place_pattern-next.ensures.next);
      kept = λ s j low high l. c.place_pattern-next.ensures.kept s j low (omega arith) l ∙ made.kept s j low high l;
      roots = c.push.ensures.items ∙ rw (made.roots, next) (sym (roots_more size ids (λ (i : PatternIds). i.root) from xs k x lt is));
      shown = shown_more size ids (λ (pool : List ℕ). ShowsPattern pool c.args.channels) (pattern_stays c.args.channels)
          c.loop-pattern.words c.place_pattern-next.new.words from xs k x lt is
          (λ s j low high l. c.place_pattern-next.ensures.kept s j low (omega arith) l)
          made.shown
          (subst (λ (n : ℕ). ShowsPattern c.place_pattern-next.new.words c.args.channels x
          (ids n x)) next c.place_pattern-next.ensures.shown);
    }
