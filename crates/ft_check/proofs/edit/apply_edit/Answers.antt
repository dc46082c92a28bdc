use Rattle.std.proofs.Common.{Ok, sym, ap, subst, ◌∙◌}
use Rattle.ft_types.specs.Valid.{IsValid}
use Rattle.ft_edits.specs.Apply.{apply, unless_fault}
use Rattle.ft_edits.specs.Edited.{edited}
use Rattle.ft_check.proofs.edit.apply_edit.Goals as goal

pub returns-in-Some-clause-fault : goal.returns-in-Some-clause-fault
unfolding apply
returns-in-Some-clause-fault c =
    ap (λ cause. unless_fault cause (edited c.args.m.now c.args.e.now)) (sym c.fault_of_module.ensures ∙ c.in-Some.is)

pub returns-in-Ok-clause-ok : goal.returns-in-Ok-clause-ok
unfolding apply
returns-in-Ok-clause-ok c =
    ap (λ cause. unless_fault cause (edited c.args.m.now c.args.e.now)) (sym c.fault_of_module.ensures ∙ c.in-None.is)
    ∙ ap Ok (sym c.in-Ok.ensures.ok)

pub returns-in-Ok-clause-valid : goal.returns-in-Ok-clause-valid
returns-in-Ok-clause-valid c =
    subst IsValid (sym c.in-Ok.ensures.ok)
    (c.valid_stays_valid.ensures.edited c.args.m.now c.args.e.now c.requires.valid c.holds_fields.ensures
    (sym c.fault_of_module.ensures ∙ c.in-None.is))

pub returns-in-Err-clause-fault : goal.returns-in-Err-clause-fault
unfolding apply
returns-in-Err-clause-fault c = (
  edited c.args.m.now c.args.e.now,
  ap (λ cause. unless_fault cause (edited c.args.m.now c.args.e.now)) (sym c.fault_of_module.ensures ∙ c.in-None.is),
)
