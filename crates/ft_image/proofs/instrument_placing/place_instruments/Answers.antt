use Rattle.std.proofs.Common.{◌<◌, ℕ, length, sym, subst, ◌∙◌, arith}
use Rattle.ft_types.specs.Blocks.{instrument_blocks}
use Rattle.ft_segments.specs.Walk.{InstrumentIds}
use Rattle.ft_image.specs.Laid.{instrument_laid}
use Rattle.ft_image.specs.Shown.{ShowsInstrument}
use Rattle.ft_image.proofs.Laying.{end_more, roots_more, shown_more}
use Rattle.ft_image.proofs.Stays.{instrument_stays}
use Rattle.ft_image.proofs.instrument_placing.place_instruments.Goals as goal

pub loop-instrument-preserved : goal.loop-instrument-preserved
loop-instrument-preserved c =
    let made = c.loop-instrument.invariant in
    let k = c.loop-instrument.instrument-index in
    let x = c.instrument-item.result in
    let xs = c.args.instruments.now in
    let is = c.instrument-item.is in
    let from = c.args.from in
    let lt : k < length xs = c.loop-instrument-test.true in
    let more = end_more instrument_blocks xs k x lt is in
    let next = made.next in
    record {
      long = c.place_instrument-next.auto.words ∙ made.long;
      next = omega (arith, c.place_instrument-next.ensures.next);
      kept = λ s j low high l. c.place_instrument-next.ensures.kept s j low (omega arith) l ∙ made.kept s j low high l;
      roots = c.push.ensures.items
          ∙ rw (made.roots, next) (sym (roots_more instrument_blocks instrument_laid (λ (i : InstrumentIds). i.root) from xs k x lt is));
      shown = shown_more instrument_blocks instrument_laid ShowsInstrument instrument_stays
          c.loop-instrument.words c.place_instrument-next.new.words from xs k x lt is
          (λ s j low high l. c.place_instrument-next.ensures.kept s j low (omega arith) l)
          made.shown
          (subst (λ (n : ℕ). ShowsInstrument c.place_instrument-next.new.words x
          (instrument_laid n x)) next c.place_instrument-next.ensures.shown);
    }
