use Rattle.std.proofs.Common.{◌∙◌, refl}
use Rattle.std.proofs.lemmas.Result.{err_from_is_err_and}
use Rattle.ft_modread.specs.Songs.{pattern_count_in}
use Rattle.ft_modread.proofs.Faults.{first_split, or_skip, or_take}
use Rattle.ft_modread.proofs.fields.check.Goals as goal

pub returns-in_err-check_head-clause-fault : goal.returns-in_err-check_head-clause-fault
returns-in_err-check_head-clause-fault c =
    let p = err_from_is_err_and c.from_residual.result c.from_residual.ensures.1 in
    rw (p.1, p.2)
    (first_split c.args.file.now (pattern_count_in c.args.file.now) refl ∙ or_take _ _ _ c.in_err-check_head.ensures.fault)

pub returns-in_err-fields-clause-fault : goal.returns-in_err-fields-clause-fault
returns-in_err-fields-clause-fault c =
    let p = err_from_is_err_and c.from_residual-in_err-fields.result c.from_residual-in_err-fields.ensures.1 in
    rw (p.1, p.2)
    (first_split c.args.file.now c.pattern_count_in-count.result c.pattern_count_in-count.ensures.value
    ∙ or_skip _ _ _ c.in_ok-check_head.ensures.fault c.in_err-fields.ensures.fault)

pub returns-clause-fault : goal.returns-clause-fault
returns-clause-fault c =
    first_split c.args.file.now c.pattern_count_in-count.result c.pattern_count_in-count.ensures.value
    ∙ or_skip _ _ _ c.in_ok-check_head.ensures.fault c.in_ok-fields.ensures.fault
