-- one more edit
use Rattle.std.proofs.Common.{◌∷◌, [], ◌++◌, codes, take, sym, ap, ◌∙◌, subst}
use Rattle.std.specs.List.{flat_map}
use Rattle.std.proofs.lemmas.List.{take_more, flat_map_more}
use Rattle.std.proofs.lemmas.List.Elements.{All-more}
use Rattle.ft_types.specs.EditParts.{EditHasRanges}
use Rattle.ft_lines.specs.Texts.{edit_text}
use Rattle.ft_lines.proofs.print.put_others.Goals as goal

pub loop-other-preserved : goal.loop-other-preserved
loop-other-preserved c =
    let others = c.args.others.now in
    let i = c.loop-other.other-index in
    let other = c.other-item.result in
    let passed = take_more others i other c.loop-other-test.true ∙ ap (λ e. take i others ++ e ∷ []) (sym c.other-item.is) in
    record {
      text = c.in_ok-put_other.ensures.text ∙ ap (λ t. t ++ (codes " ; " ++ edit_text other)) c.loop-other.invariant.text
          ∙ flat_map_more (λ edit. codes " ; " ++ edit_text edit) c.args.text.now.items (take i others) other
          ∙ ap (λ es. c.args.text.now.items ++ flat_map (λ edit. codes " ; " ++ edit_text edit) es) (sym passed);
      ranges = All-more EditHasRanges others i other c.loop-other-test.true c.loop-other.invariant.ranges
          (subst EditHasRanges c.other-item.is c.in_ok-put_other.ensures.ranges);
    }
