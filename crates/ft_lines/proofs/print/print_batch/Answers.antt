-- a batch that was printed is read
use Rattle.std.proofs.Common.{◌∷◌, sym, ◌∙◌}
use Rattle.std.proofs.lemmas.List.Elements.{All-cons, All-same}
use Rattle.ft_types.specs.EditParts.{EditHasRanges}
use Rattle.ft_lines.proofs.LinesBack.{batches_are_read_back}
use Rattle.ft_lines.proofs.print.print_batch.Goals as goal

pub returns-clause-ranges : goal.returns-clause-ranges
returns-clause-ranges c =
    let first = c.in-Some.first.now in
    let others = c.in-Some.others.now in
    let edits = sym c.as_slice.ensures ∙ c.in-Some.ensures.cases.0 in
    All-same EditHasRanges c.args.batch.now (first ∷ others) edits
    (All-cons EditHasRanges first others c.in_ok-text.ensures.ranges c.in_ok-put_others.ensures.ranges)

pub returns-clause-read : goal.returns-clause-read
returns-clause-read c some few givable short =
    batches_are_read_back c.args.batch.now (record { some = some; few = few; ranges = returns-clause-ranges c; givable = givable }) short
