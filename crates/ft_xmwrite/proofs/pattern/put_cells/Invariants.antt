use Rattle.std.proofs.Common.{◌≡◌, ◌++◌, take}
use Rattle.std.specs.List.{flat_map}
use Rattle.ft_format.specs.Canon.{cell_bytes}
use Rattle.ft_xmwrite.proofs.pattern.put_cells.Given as goal

abbrev pub invariant-loop-cell : goal.invariant-loop-cell
invariant-loop-cell l = l.bytes.items ≡ l.fn.bytes.items ++ flat_map cell_bytes (take l.cell-index l.cells)
