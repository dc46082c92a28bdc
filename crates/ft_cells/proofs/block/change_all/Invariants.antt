-- those that were passed are changed
use Rattle.std.proofs.Common.{◌≡◌, ◌++◌, map, take, drop}
use Rattle.ft_edits.specs.Changes.{cell_changed}
use Rattle.ft_cells.proofs.block.change_all.Given as goal

abbrev pub invariant-loop-cell : goal.invariant-loop-cell
invariant-loop-cell l =
    l.cells ≡ map (cell_changed l.e) (take l.cell-index l.fn.cells) ++ drop l.cell-index l.fn.cells
