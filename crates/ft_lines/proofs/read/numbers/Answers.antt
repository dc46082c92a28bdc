use Rattle.std.proofs.Common.{◌≡◌, suc, ◌+◌, drop, drop-cons, ap, ◌∙◌, arith}
use Rattle.std.proofs.lemmas.Result.{err_from_is_err_and}
use Rattle.ft_lines.proofs.NumbersRead.{number_follows, number_is_wrong}
use Rattle.ft_lines.proofs.read.numbers.Goals as goal

pub returns-in_err-one_number : goal.returns-in_err-one_number
returns-in_err-one_number c =
    let l = c.loop-number_type in
    let p = err_from_is_err_and c.from_residual.result c.from_residual.ensures.1 in
    let cut = drop-cons c.args.types.now l.number_type-index _ c.loop-number_type-test.true in
    rw (p.1, p.2) (number_is_wrong c.in_err-one_number.field-0.0 l.numbers.items _
    (drop (suc l.number_type-index) c.args.types.now) l.line _ c.in_err-one_number.ensures.read (rw cut at l.invariant.reading))

pub loop-number_type-preserved : goal.loop-number_type-preserved
loop-number_type-preserved c =
    let l = c.loop-number_type in
    let one : l.number_type-index + 1 ≡ suc l.number_type-index = omega arith in
    let cut = drop-cons c.args.types.now l.number_type-index _ c.loop-number_type-test.true in
    record {
      reading = rw one (number_follows l.numbers.items c.one_number.new.numbers.items _
          (drop (suc l.number_type-index) c.args.types.now) l.line c.one_number.new.line c.in_ok-one_number.ensures.read
          ∙ rw cut at l.invariant.reading);
      count = c.in_ok-one_number.ensures.count ∙ ap (λ n. n + 1) l.invariant.count;
    }
