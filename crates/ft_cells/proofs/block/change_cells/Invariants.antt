-- the rows that were passed are changed
use Rattle.std.proofs.Common.{◌≡◌, ◌/◌, ◌%◌}
use Rattle.std.specs.Prelude.{if◌then◌else◌}
use Rattle.ft_edits.specs.Lists.{each_from}
use Rattle.ft_edits.specs.Patterns.{in_block}
use Rattle.ft_edits.specs.Changes.{cell_changed}
use Rattle.ft_cells.proofs.block.change_cells.Given as goal

abbrev pub invariant-loop-i : goal.invariant-loop-i
invariant-loop-i l = l.cells ≡ each_from (λ place cell.
    if in_block l.block.r l.block.c l.i l.block.w (place / l.channels) (place % l.channels)
    then cell_changed l.e cell else cell) 0 l.fn.cells
