use Rattle.std.proofs.Common.{◌≡◌, ◌≤◌, ◌-◌, vec_len, vec_capacity}
use Rattle.ft_xmwrite.specs.Generate.{drawn_cell, drawn}
use Rattle.ft_xmwrite.proofs.Drawn.{IsFront}
use Rattle.ft_xmwrite.proofs.generator.pattern.cells.Given as goal

abbrev pub invariant-loop : goal.invariant-loop
invariant-loop l = record {
  front : IsFront drawn_cell (drawn 512 drawn_cell l.fn.draws) l.cells.items (512 - l.counter) l.draws;
  len : vec_len l.cells ≡ l.counter;
  room : 512 ≤ vec_capacity l.cells;
}
