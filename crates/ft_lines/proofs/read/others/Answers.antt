use Rattle.std.proofs.Common.{◌≡◌, ◌-◌, ◌+◌, suc, [], ◌∷◌, length, length-append, sym, ap, ◌∙◌, arith}
use Rattle.std.proofs.lemmas.Result.{err_from_is_err_and}
use Rattle.ft_lines.proofs.ReadingLaws.{none_follows, edit_is_wrong, another_follows, nothing_more}
use Rattle.ft_lines.proofs.read.others.Goals as goal

pub returns-then-is_over : goal.returns-then-is_over
returns-then-is_over c =
    let more : 16 - c.loop.counter ≡ suc (15 - c.loop.counter) = omega arith in
    sym (rw more at c.loop.invariant.reading)
    ∙ none_follows c.loop.batch (15 - c.loop.counter) c.loop.line (sym c.is_over.ensures ∙ c.if-is_over.true)

pub returns-in_err-edit : goal.returns-in_err-edit
returns-in_err-edit c =
    let more : 16 - c.loop.counter ≡ suc (15 - c.loop.counter) = omega arith in
    let p = err_from_is_err_and c.from_residual.result c.from_residual.ensures.1 in
    rw (p.1, p.2) (edit_is_wrong c.in_err-edit.field-0.0 c.loop.batch (15 - c.loop.counter) c.loop.line _
    (sym c.is_over.ensures ∙ c.if-is_over.false) c.in_err-edit.ensures (rw more at c.loop.invariant.reading))

pub loop-preserved : goal.loop-preserved
loop-preserved c =
    let more : 16 - c.loop.counter ≡ suc (15 - c.loop.counter) = omega arith in
    let fewer : 16 - (c.loop.counter + 1) ≡ 15 - c.loop.counter = omega arith in
    record {
      reading = rw (c.in_ok-push.ensures.ok, fewer)
          (another_follows c.loop.batch (15 - c.loop.counter) c.loop.line c.another.new.line c.in_ok-edit.edit
          (sym c.is_over.ensures ∙ c.if-is_over.false) c.in_ok-edit.ensures ∙ rw more at c.loop.invariant.reading);
      count = ap length c.in_ok-push.ensures.ok
          ∙ (length-append c.loop.batch (c.in_ok-edit.edit ∷ []) ∙ ap (λ n. n + 1) c.loop.invariant.count);
    }

pub returns : goal.returns
returns c =
    let none : 16 - c.loop.counter ≡ 0 = omega arith in
    nothing_more c.loop.batch c.end.result c.loop.line c.end.new.self _ c.end.ensures (rw none at c.loop.invariant.reading)
