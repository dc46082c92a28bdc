use Rattle.std.proofs.lemmas.Result.{err_from_is_err_and}
use Rattle.ft_xmread.specs.Instrument.{samples_spelled_at}
use Rattle.ft_xmread.proofs.SampleLoop.{samples_go_on, samples_fail_on, samples_done}
use Rattle.ft_xmread.proofs.instrument.read_samples.Goals as goal

pub returns-in_err-steps : goal.returns-in_err-steps
returns-in_err-steps c =
    let p = err_from_is_err_and c.from_residual-in_err-steps.result c.from_residual-in_err-steps.ensures.1 in
    rw (p.1, p.2)
    (samples_fail_on c.args.headers.now c.in_err-steps.field-0.0 c.loop-header.samples.items
    c.loop-header.header-index c.loop-header.reader (samples_spelled_at c.args.headers.now c.args.reader.now)
    c.loop-header-test.true c.in_err-steps.ensures.value c.loop-header.invariant)

pub loop-header-preserved : goal.loop-header-preserved
loop-header-preserved c =
    rw (c.in_ok-push.ensures.items, c.in_ok-sample.ensures.value)
    (samples_go_on c.args.headers.now c.loop-header.samples.items c.loop-header.header-index c.loop-header.reader
    c.in_ok-steps.steps.now c.field.new.self (samples_spelled_at c.args.headers.now c.args.reader.now)
    c.loop-header-test.true c.in_ok-steps.ensures.value c.loop-header.invariant)

pub returns : goal.returns
returns c =
    samples_done c.args.headers.now c.loop-header.samples.items c.loop-header.header-index c.loop-header.reader
    (samples_spelled_at c.args.headers.now c.args.reader.now) c.loop-header-test.false c.loop-header.invariant
