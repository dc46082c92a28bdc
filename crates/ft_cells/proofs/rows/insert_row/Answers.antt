use Rattle.std.proofs.Common.{◌≡◌, ◌*◌, length, arith}
use Rattle.std.proofs.lemmas.List.{length-replicate}
use Rattle.ft_types.specs.declared.pattern.Cell.{Cell}
use Rattle.ft_types.specs.Views.{empty_cell}
use Rattle.ft_edits.specs.Patterns.{empty_rows}
use Rattle.ft_cells.proofs.Parts.{row_in}
use Rattle.ft_cells.proofs.rows.insert_row.Goals as goal

pub returns : goal.returns
returns c =
    let size : length (empty_rows c.args.channels 1) ≡ c.args.channels =
    omega (arith, length-replicate {A = Cell} (1 * c.args.channels) empty_cell) in
    row_in c.args.at c.args.channels c.args.cells.now (empty_rows c.args.channels 1) c.row_first.new.cells size
    c.requires c.row_first.ensures
