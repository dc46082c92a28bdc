use Rattle.std.proofs.Common.{◌≡◌, ◌<◌, ◌+◌, ◌-◌, ◌*◌, ℕ, List, length, get_or, ap, ◌∙◌, arith, inl, inr}
use Rattle.std.proofs.lemmas.Bool.{cases_eq}
use Rattle.ft_types.specs.Views.{empty_cell}
use Rattle.ft_segments.specs.Packing.{word_at}
use Rattle.ft_segments.specs.Walk.{IsOf}
use Rattle.ft_image.specs.Values.{cell_word}
use Rattle.ft_songedit.proofs.Fresh.{differ, not_named}
use Rattle.ft_songedit.proofs.pattern_edit.write_bodies.Goals as goal

pub loop-at-preserved : goal.loop-at-preserved
loop-at-preserved g c =
    let made = c.loop-at.invariant in
    let fill = c.fill_with.ensures in
    let at = c.loop-at.at in
    let fresh : List ℕ = c.args.fresh.now in
    let pool = g.F.Fill.written c.fill_with.new.words in
    let within : at < length fresh = omega (arith, c.loop-at-test.true, c.min-at-end.ensures) in
    record {
      narrows = λ p s h. made.narrows p s (fill.narrows p s h);
      may = λ s h. fill.may s (made.may s h);
      written = λ p may b j lt l. elim (cases_eq (2 + b) at) [
        | inl same ↦
            let first : (at - 2) * 256 ≡ b * 256 = omega (arith, same) in
            ap (λ i. word_at pool (get_or fresh i 0) j) same ∙ fill.filled p may j l
            ∙ ap (λ n. cell_word (get_or c.args.cells.now (n + j) empty_cell)) first
        | inr ne ↦
            let below : 2 + b < at = omega (arith, ne, lt) in
            fill.others (get_or fresh (2 + b) 0) j (differ fresh (2 + b) at c.requires.once below within) l
            ∙ made.written p (λ (s : ℕ) (of : IsOf p s). fill.narrows p s (may s of)) b j below l
      ];
      others = λ s j none l. fill.others s j (not_named fresh s at none within) l ∙ made.others s j none l;
      root = λ j l. fill.others (get_or fresh 0 0) j (differ fresh 0 at c.requires.once (omega (arith, c.loop-at.auto.at)) within) l
          ∙ made.root j l;
      long = fill.long ∙ made.long;
      rest = c.fill_law.ensures.through c.args.words.now c.loop-at.words c.fill_with.new.words made.rest fill.rest;
    }

pub returns-clause-written : goal.returns-clause-written
returns-clause-written g c = λ p may b j low within l.
    c.loop-at.invariant.written p may b j (omega (arith, low, within, c.loop-at-test.false, c.min-at-end.ensures)) l
