use Rattle.std.proofs.Common.{◌∙◌, sym, ap, arith}
use Rattle.std.proofs.lemmas.Result.{err_from_is_err_and}
use Rattle.ft_modread.proofs.Faults.{head_split, or_skip, or_take, checked_there, checked_short, on_ok_always, meets_last}
use Rattle.ft_modread.specs.ModFields.{orders_check, mark_check}
use Rattle.ft_modread.specs.declared.layout.TheConstants.{ORDERS_AT, ORDERS, MARK_AT}
use Rattle.ft_modread.proofs.fields.check_head.Goals as goal

pub returns-in_err-fields-clause-fault : goal.returns-in_err-fields-clause-fault
returns-in_err-fields-clause-fault c =
    let p = err_from_is_err_and c.from_residual-in_err-fields.result c.from_residual-in_err-fields.ensures.1 in
    rw (p.1, p.2) (head_split c.args.file.now ∙ or_skip _ _ _ c.in_ok-field.ensures.fault (or_take _ _ _ c.in_err-fields.ensures.fault))

pub returns-in_err-check_length-clause-fault : goal.returns-in_err-check_length-clause-fault
returns-in_err-check_length-clause-fault c =
    let p = err_from_is_err_and c.from_residual-in_err-check_length.result c.from_residual-in_err-check_length.ensures.1 in
    rw (p.1, p.2) (head_split c.args.file.now ∙ or_skip _ _ _ c.in_ok-field.ensures.fault (or_skip _ _ _ c.in_ok-fields.ensures.fault (or_take _ _ _ c.in_err-check_length.ensures)))

pub returns-in_err-field-2-clause-fault : goal.returns-in_err-field-2-clause-fault
returns-in_err-field-2-clause-fault c =
    let p = err_from_is_err_and c.from_residual-in_err-field-2.result c.from_residual-in_err-field-2.ensures.1 in
    rw (p.1, p.2) (head_split c.args.file.now ∙ or_skip _ _ _ c.in_ok-field.ensures.fault (or_skip _ _ _ c.in_ok-fields.ensures.fault (or_skip _ _ _ c.in_ok-check_length.ensures (or_take _ _ _ c.in_err-field-2.ensures.fault))))

pub returns-in_err-field-3-clause-fault : goal.returns-in_err-field-3-clause-fault
returns-in_err-field-3-clause-fault c =
    let p = err_from_is_err_and c.from_residual-in_err-field-3.result c.from_residual-in_err-field-3.ensures.1 in
    rw (p.1, p.2) (head_split c.args.file.now ∙ or_skip _ _ _ c.in_ok-field.ensures.fault (or_skip _ _ _ c.in_ok-fields.ensures.fault (or_skip _ _ _ c.in_ok-check_length.ensures (or_skip _ _ _ c.in_ok-field-2.ensures.fault (or_take _ _ _ (checked_short c.args.file.now ORDERS_AT ORDERS orders_check _ c.in_err-field-3.ensures.fault))))))

pub returns-in_err-check_orders-clause-fault : goal.returns-in_err-check_orders-clause-fault
returns-in_err-check_orders-clause-fault c =
    let p = err_from_is_err_and c.from_residual-in_err-check_orders.result c.from_residual-in_err-check_orders.ensures.1 in
    rw (p.1, p.2) (head_split c.args.file.now ∙ or_skip _ _ _ c.in_ok-field.ensures.fault (or_skip _ _ _ c.in_ok-fields.ensures.fault (or_skip _ _ _ c.in_ok-check_length.ensures (or_skip _ _ _ c.in_ok-field-2.ensures.fault (or_take _ _ _ (checked_there c.args.file.now ORDERS_AT ORDERS orders_check c.in_ok-field-3.ensures.whole ∙ sym (ap orders_check c.in_ok-field-3.ensures.value) ∙ c.in_err-check_orders.ensures))))))

pub returns-in_err-field-4-clause-fault : goal.returns-in_err-field-4-clause-fault
returns-in_err-field-4-clause-fault c =
    let p = err_from_is_err_and c.from_residual-in_err-field-4.result c.from_residual-in_err-field-4.ensures.1 in
    rw (p.1, p.2) (head_split c.args.file.now ∙ or_skip _ _ _ c.in_ok-field.ensures.fault (or_skip _ _ _ c.in_ok-fields.ensures.fault (or_skip _ _ _ c.in_ok-check_length.ensures (or_skip _ _ _ c.in_ok-field-2.ensures.fault (or_skip _ _ _ (checked_there c.args.file.now ORDERS_AT ORDERS orders_check c.in_ok-field-3.ensures.whole ∙ sym (ap orders_check c.in_ok-field-3.ensures.value) ∙ c.in_ok-check_orders.ensures) (checked_short c.args.file.now MARK_AT 4 mark_check _ c.in_err-field-4.ensures.fault))))))

pub returns-clause-fault : goal.returns-clause-fault
returns-clause-fault c =
    meets_last c.check_mark.result _ (mark_check c.in_ok-field-4.field-0.now)
    (head_split c.args.file.now ∙ or_skip _ _ _ c.in_ok-field.ensures.fault (or_skip _ _ _ c.in_ok-fields.ensures.fault (or_skip _ _ _ c.in_ok-check_length.ensures (or_skip _ _ _ c.in_ok-field-2.ensures.fault (or_skip _ _ _ (checked_there c.args.file.now ORDERS_AT ORDERS orders_check c.in_ok-field-3.ensures.whole ∙ sym (ap orders_check c.in_ok-field-3.ensures.value) ∙ c.in_ok-check_orders.ensures) (checked_there c.args.file.now MARK_AT 4 mark_check c.in_ok-field-4.ensures.whole ∙ sym (ap mark_check c.in_ok-field-4.ensures.value)))))))
    c.check_mark.ensures

pub returns-clause-whole : goal.returns-clause-whole
returns-clause-whole c = on_ok_always c.check_mark.result _ (omega (arith, c.in_ok-field-4.ensures.whole))
