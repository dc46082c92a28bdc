use Rattle.std.proofs.Common.{sym, arith}
use Rattle.ft_edits.specs.Changes.{sample_changed}
use Rattle.ft_check.proofs.Changes.{ok_so, err_so, sample_now, sample_back, sample_none}
use Rattle.ft_check.proofs.sample.change_in.Goals as goal

pub returns-in-Some-clause-ok : goal.returns-in-Some-clause-ok
returns-in-Some-clause-ok c = ok_so c.change.result c.change.ensures.ok (λ new.
    sample_now c.args.instrument.now c.args.s c.from.result (sample_changed c.args.e.now) c.in-Some.sample.now
    c.change.new.sample
    (omega arith) (sym c.in-Some.ensures.value) new)

pub returns-in-Some-clause-err : goal.returns-in-Some-clause-err
returns-in-Some-clause-err c = err_so c.change.result c.change.ensures.err (λ same.
    sample_back c.args.instrument.now c.from.result c.in-Some.sample.now c.change.new.sample
    (sym c.in-Some.ensures.value) same)

pub returns-in-None-clause-ok : goal.returns-in-None-clause-ok
returns-in-None-clause-ok c =
    sample_none c.args.instrument.now c.args.s c.from.result (sample_changed c.args.e.now) (omega arith)
    (sym c.in-None.ensures.value)
