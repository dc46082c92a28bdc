use Rattle.std.proofs.Common.{rules, arith, ◌∙◌, ap, sym, List, ℕ, ◌++◌, ◌∷◌, []}
use Rattle.ft_xmwrite.proofs.Drawn.{range_more}
use Rattle.ft_xmwrite.proofs.generator.orders.Goals as goal

pub loop-order-preserved : goal.loop-order-preserved
loop-order-preserved c = record {
  so_far =
      c.push_reserved.ensures.items ∙ ap (λ (l : List ℕ). l ++ c.loop-order.order ∷ []) c.loop-order.invariant.so_far
      ∙ sym (range_more 0 c.loop-order.order c.loop-order.order (omega arith));
  len = search rules;
  room = search rules;
}
