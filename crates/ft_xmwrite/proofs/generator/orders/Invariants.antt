use Rattle.std.proofs.Common.{◌≡◌, ◌≤◌, vec_len, vec_capacity}
use Rattle.std.specs.List.{range_with_len}
use Rattle.ft_xmwrite.proofs.generator.orders.Given as goal

abbrev pub invariant-loop-order : goal.invariant-loop-order
invariant-loop-order l = record {
  so_far : l.orders.items ≡ range_with_len 0 l.order;
  len : vec_len l.orders ≡ l.order;
  room : 40 ≤ vec_capacity l.orders;
}
