use Rattle.std.proofs.Common.{◌+◌}
use Rattle.ft_xmread.specs.Reader.{times}
use Rattle.ft_xmread.specs.Instrument.{instrument_spelled_at}
use Rattle.std.proofs.lemmas.Result.{err_from_is_err_and}
use Rattle.ft_xmread.proofs.Loop.{goes_on, fails_on, is_done}
use Rattle.ft_xmread.proofs.instrument.read_instruments.Goals as goal

pub returns-in_err-instrument : goal.returns-in_err-instrument
returns-in_err-instrument c =
    let p = err_from_is_err_and c.from_residual-in_err-instrument.result c.from_residual-in_err-instrument.ensures.1 in
    rw (p.1, p.2)
    (fails_on (λ k. instrument_spelled_at (k + 1)) c.in_err-instrument.field-0.0 c.loop-k.instruments.items
    c.args.count c.loop-k.k c.loop-k.reader
    (times (λ k. instrument_spelled_at (k + 1)) 0 c.args.count c.args.reader.now) c.loop-k-test.true
    c.in_err-instrument.ensures c.loop-k.invariant)

pub loop-k-preserved : goal.loop-k-preserved
loop-k-preserved c =
    rw c.in_ok-push.ensures.items
    (goes_on (λ k. instrument_spelled_at (k + 1)) c.loop-k.instruments.items c.args.count c.loop-k.k c.loop-k.reader
    c.in_ok-instrument.instrument c.read_instrument.new.reader
    (times (λ k. instrument_spelled_at (k + 1)) 0 c.args.count c.args.reader.now) c.loop-k-test.true
    c.in_ok-instrument.ensures c.loop-k.invariant)

pub returns : goal.returns
returns c =
    is_done (λ k. instrument_spelled_at (k + 1)) c.loop-k.instruments.items c.args.count c.loop-k.k c.loop-k.reader
    (times (λ k. instrument_spelled_at (k + 1)) 0 c.args.count c.args.reader.now) c.loop-k-test.false c.loop-k.invariant
