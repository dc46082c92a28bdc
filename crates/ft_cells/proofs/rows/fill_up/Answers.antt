use Rattle.std.proofs.Common.{◌-◌, replicate, ap, ◌∙◌, arith}
use Rattle.ft_types.specs.Views.{empty_cell}
use Rattle.ft_cells.proofs.Parts.{filled_up}
use Rattle.ft_cells.proofs.BlockCells.{mid_length}
use Rattle.ft_cells.proofs.rows.fill_up.Goals as goal

pub returns-then-count-wanted : goal.returns-then-count-wanted
returns-then-count-wanted c =
    filled_up c.args.count c.args.wanted c.args.cells.now c.clear.new.cells empty_cell (omega arith) (omega arith)
    (c.clear.ensures
    ∙ ap (λ n. replicate n empty_cell)
    (mid_length c.args.count (c.args.wanted - c.args.count) c.args.cells.now (omega arith)))
