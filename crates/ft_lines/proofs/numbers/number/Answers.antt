use Rattle.std.proofs.Common.{sym, ◌∙◌, length, arith}
use Rattle.std.proofs.lemmas.Bool.{eqb-true, eqb-false}
use Rattle.ft_lines.proofs.Decimals.{no_empty_number, no_leading_zero, number_found}
use Rattle.ft_lines.proofs.numbers.number.Goals as goal

pub returns-then-is_empty-clause-value : goal.returns-then-is_empty-clause-value
returns-then-is_empty-clause-value c =
    let empty = eqb-true (length c.args.word.now) 0 (sym c.is_empty.ensures ∙ c.if-is_empty.true) in
    sym (no_empty_number c.args.most c.args.word.now (omega arith) empty)

pub returns-then-word-gt1-clause-value : goal.returns-then-word-gt1-clause-value
returns-then-word-gt1-clause-value c =
    sym (no_leading_zero c.args.most c.args.word.now (omega arith) c.if-word-eq48.true c.if-word-gt1.true)

pub returns-clause-value : goal.returns-clause-value
returns-clause-value c =
    let some = eqb-false (length c.args.word.now) 0 (sym c.is_empty.ensures ∙ c.if-is_empty.false) in
    number_found c.args.most c.args.word.now c.value_of.result (omega arith) (omega (arith, some)) c.else-word-eq48.either
    c.value_of.ensures.some c.value_of.ensures.within c.value_of.ensures.none
