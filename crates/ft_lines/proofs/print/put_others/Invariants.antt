-- the edits that were passed
use Rattle.std.proofs.Common.{◌≡◌, ◌++◌, take, codes}
use Rattle.std.specs.List.{All, flat_map}
use Rattle.ft_types.specs.EditParts.{EditHasRanges}
use Rattle.ft_lines.specs.Texts.{edit_text}
use Rattle.ft_lines.proofs.print.put_others.Given as goal

abbrev pub invariant-loop-other : goal.invariant-loop-other
invariant-loop-other l = record {
  text : l.text.items ≡ l.initial.text.items ++ flat_map (λ edit. codes " ; " ++ edit_text edit) (take l.other-index l.others);
  ranges : All EditHasRanges (take l.other-index l.others);
}
