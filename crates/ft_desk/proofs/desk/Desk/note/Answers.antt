use Rattle.std.proofs.Common.{sym, ap, subst, ◌∙◌}
use Rattle.std.specs.Vec.{vec_capacity}
use Rattle.ft_shared.specs.declared.law.Account.{Account}
use Rattle.ft_shared.specs.Account.{after_note_made}
use Rattle.ft_shared.specs.Pass.{WriterState}
use Rattle.ft_desk.specs.Desk.{IsDesk, desk_of}
use Rattle.ft_desk.proofs.Kept.{with_steps}
use Rattle.ft_desk.proofs.desk.Desk.note.Goals as goal

pub invariant_of-self : goal.invariant_of-self
invariant_of-self c =
    let desk = c.self.inside in
    let after : Account = after_note_made desk.pass.account in (
      ap (λ (w : WriterState). w.account.version) c.note.ensures.noted ∙ c.self.invariant.0,
      subst (λ (w : WriterState). IsDesk (desk_of w desk.journal desk.births (vec_capacity desk.fresh) desk.opening.value desk.first.value))
          (sym c.note.ensures.noted)
          (with_steps desk.pass after.settled after.steps desk.journal desk.births (vec_capacity desk.fresh) desk.opening.value
          desk.first.value c.self.invariant.1),
    )
