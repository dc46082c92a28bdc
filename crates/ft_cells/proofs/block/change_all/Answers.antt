use Rattle.std.proofs.Common.{get_or, arith}
use Rattle.std.proofs.lemmas.List.{get_or_default}
use Rattle.std.proofs.lemmas.List.Edits.{map_over_more}
use Rattle.ft_types.specs.Views.{empty_cell}
use Rattle.ft_edits.specs.Changes.{cell_changed}
use Rattle.ft_cells.proofs.block.change_all.Goals as goal

pub loop-cell-preserved : goal.loop-cell-preserved
loop-cell-preserved c =
    let l = c.loop-cell in
    rw c.changed.ensures (map_over_more (cell_changed c.args.e.now) c.args.cells.now l.cells l.cell-index
    (get_or l.cells l.cell-index empty_cell)
    (omega arith) l.invariant (get_or_default l.cells l.cell-index empty_cell _ (omega arith)))
