use Rattle.std.proofs.Common.{sym, ap, subst, ◌∙◌}
use Rattle.ft_player.specs.Inner.{idle_state}
use Rattle.ft_player.specs.Player.{PlayerState, IsAsBefore}
use Rattle.ft_player.proofs.Ordered.{as_before}
use Rattle.ft_player.proofs.idle.Idle.rejoin.Goals as goal

pub invariant_of-result : goal.invariant_of-result
invariant_of-result c = record {
  held = c.requires.held ∙ sym (ap (λ (p : PlayerState). p.pass.notes.held) c.self.view_is) ∙ c.self.invariant.held;
  order = as_before (idle_state c.self.inside) c.args.pass c.self.invariant.order
      (subst (λ (p : PlayerState). IsAsBefore p.pass c.args.pass) (sym c.self.view_is) c.requires);
}

pub returns-clause-order : goal.returns-clause-order
returns-clause-order c =
    as_before (idle_state c.self.inside) c.args.pass c.self.invariant.order
    (subst (λ (p : PlayerState). IsAsBefore p.pass c.args.pass) (sym c.self.view_is) c.requires)
