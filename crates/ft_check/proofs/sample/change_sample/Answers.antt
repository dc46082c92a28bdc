use Rattle.std.proofs.Common.{◌-◌, sym, arith}
use Rattle.ft_edits.specs.Changes.{sample_changed}
use Rattle.ft_check.specs.Changes.{sample_in_changed}
use Rattle.ft_check.proofs.Changes.{ok_so, err_so, instrument_now, instrument_back, instrument_none}
use Rattle.ft_check.proofs.sample.change_sample.Goals as goal

pub returns-in-Some-clause-ok : goal.returns-in-Some-clause-ok
returns-in-Some-clause-ok c = ok_so c.change_in.result c.change_in.ensures.ok (λ new.
    instrument_now c.args.m.now c.args.i (c.from.result - 1)
    (sample_in_changed c.args.s (sample_changed c.args.e.now))
    c.in-Some.instrument.now c.change_in.new.instrument (omega arith) (sym c.in-Some.ensures.value) new)

pub returns-in-Some-clause-err : goal.returns-in-Some-clause-err
returns-in-Some-clause-err c = err_so c.change_in.result c.change_in.ensures.err (λ same.
    instrument_back c.args.m.now (c.from.result - 1) c.in-Some.instrument.now c.change_in.new.instrument
    (sym c.in-Some.ensures.value) same)

pub returns-in-None-clause-ok : goal.returns-in-None-clause-ok
returns-in-None-clause-ok c =
    instrument_none c.args.m.now c.args.i (c.from.result - 1)
    (sample_in_changed c.args.s (sample_changed c.args.e.now)) (omega arith)
    (sym c.in-None.ensures.value)
