use Rattle.std.proofs.Common.{◌≡◌, ◌≤◌, vec_len, vec_capacity}
use Rattle.ft_modread.specs.declared.layout.TheConstants.{CELLS}
use Rattle.ft_modread.specs.Layout.{each}
use Rattle.ft_modread.specs.Patterns.{mod_cell}
use Rattle.ft_modread.proofs.pattern.cells_of.Given as goal

abbrev pub invariant-loop-k : goal.invariant-loop-k
invariant-loop-k l = record {
  items : l.cells.items ≡ each l.k (mod_cell l.bytes);
  len : vec_len l.cells ≡ l.k;
  room : CELLS ≤ vec_capacity l.cells;
}
