use Rattle.std.proofs.Common.{[], ◌∷◌}
use Rattle.std.proofs.lemmas.List.Elements.{All-head}
use Rattle.ft_types.specs.Edits.{IsGivable}
use Rattle.ft_types.specs.EditParts.{EditHasRanges}
use Rattle.ft_lines.proofs.EditsInRange.{lines_are_in_range}
use Rattle.ft_lines.proofs.LinesBack.{edits_are_read_back, batches_are_read_back}
use Rattle.ft_lines.proofs.laws.read_edits_are_in_range.Goals as goal

pub returns-clause-ranges : goal.returns-clause-ranges
returns-clause-ranges c = lines_are_in_range

pub returns-clause-edits : goal.returns-clause-edits
returns-clause-edits c line time edit said =
    let is = lines_are_in_range 0 line time (edit ∷ []) said in
    edits_are_read_back edit (All-head EditHasRanges edit [] is.ranges) (All-head IsGivable edit [] is.givable)

pub returns-clause-batches : goal.returns-clause-batches
returns-clause-batches c line time edits said short =
    let is = lines_are_in_range 15 line time edits said in
    batches_are_read_back edits (record { some = is.some; few = is.few; ranges = is.ranges; givable = is.givable }) short
