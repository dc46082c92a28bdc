use Rattle.ft_xmread.specs.Reader.{times}
use Rattle.ft_xmread.specs.Sample.{sample_header_at}
use Rattle.std.proofs.lemmas.Result.{err_from_is_err_and}
use Rattle.ft_xmread.proofs.Loop.{goes_on, fails_on, is_done}
use Rattle.ft_xmread.proofs.instrument.read_headers.Goals as goal

pub returns-in_err-header : goal.returns-in_err-header
returns-in_err-header c =
    let p = err_from_is_err_and c.from_residual-in_err-header.result c.from_residual-in_err-header.ensures.1 in
    rw (p.1, p.2)
    (fails_on (sample_header_at c.args.instrument) c.in_err-header.field-0.0 c.loop-number.headers.items
    c.args.count c.loop-number.number c.loop-number.reader
    (times (sample_header_at c.args.instrument) 0 c.args.count c.args.reader.now) c.loop-number-test.true
    c.in_err-header.ensures c.loop-number.invariant)

pub loop-number-preserved : goal.loop-number-preserved
loop-number-preserved c =
    rw c.in_ok-push.ensures.items
    (goes_on (sample_header_at c.args.instrument) c.loop-number.headers.items c.args.count c.loop-number.number
    c.loop-number.reader c.in_ok-header.header c.read_sample_header.new.reader
    (times (sample_header_at c.args.instrument) 0 c.args.count c.args.reader.now) c.loop-number-test.true
    c.in_ok-header.ensures c.loop-number.invariant)

pub returns : goal.returns
returns c =
    is_done (sample_header_at c.args.instrument) c.loop-number.headers.items c.args.count c.loop-number.number
    c.loop-number.reader (times (sample_header_at c.args.instrument) 0 c.args.count c.args.reader.now)
    c.loop-number-test.false c.loop-number.invariant
