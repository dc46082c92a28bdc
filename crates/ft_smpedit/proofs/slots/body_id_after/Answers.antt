use Rattle.std.proofs.Common.{◌≤◌, arith}
use Rattle.ft_smpedit.proofs.slots.body_id_after.Goals as goal
use Rattle.ft_smpedit.proofs.slots.body_id_after.Goals.{else-range-n-via-then-range-n+else-n-range, else-range-n-via-else-range-n}

pub returns-clause-answer : goal.returns-clause-answer
returns-clause-answer g c = λ p e x old new r.
    let out : c.args.range.first ≤ c.args.n → c.args.range.last ≤ c.args.n = λ le. elim c.else-range-n.branch [
      | else-range-n-via-then-range-n+else-n-range w ↦ omega (arith, w.if-n-range.false)
      | else-range-n-via-else-range-n w ↦ absurd (omega (arith, le, w.if-range-n.false))
    ] in
    c.kept_body_id.ensures.answer p e c.args.fresh.now x old new r out
