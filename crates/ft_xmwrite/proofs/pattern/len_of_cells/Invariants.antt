use Rattle.std.proofs.Common.{◌≡◌, ◌≤◌, ◌*◌, length, take}
use Rattle.std.specs.List.{flat_map}
use Rattle.ft_format.specs.Canon.{cell_bytes}
use Rattle.ft_xmwrite.proofs.pattern.len_of_cells.Given as goal

abbrev pub invariant-loop-cell : goal.invariant-loop-cell
invariant-loop-cell l = record {
  so_far : l.len ≡ length (flat_map cell_bytes (take l.cell-index l.cells));
  few : l.len ≤ 6 * l.cell-index;
}
