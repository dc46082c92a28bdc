-- the rows that were passed are written
use Rattle.std.proofs.Common.{◌≡◌}
use Rattle.ft_edits.specs.Lists.{each_from}
use Rattle.ft_cells.specs.Blocks.{blocked, sourced}
use Rattle.ft_cells.proofs.block.paste_cells.Given as goal

abbrev pub invariant-loop-i : goal.invariant-loop-i
invariant-loop-i l = l.cells ≡ each_from (blocked l.channels l.block.r l.block.c l.i l.block.w
    (sourced l.channels l.source l.r l.c l.block.r l.block.c)) 0 l.fn.cells
