use Rattle.ft_xmread.specs.Reader.{times}
use Rattle.ft_xmread.specs.Pattern.{pattern_at}
use Rattle.std.proofs.lemmas.Result.{err_from_is_err_and}
use Rattle.ft_xmread.proofs.Loop.{goes_on, fails_on, is_done}
use Rattle.ft_xmread.proofs.pattern.read_patterns.Goals as goal

pub returns-in_err-pattern : goal.returns-in_err-pattern
returns-in_err-pattern c =
    let p = err_from_is_err_and c.from_residual-in_err-pattern.result c.from_residual-in_err-pattern.ensures.1 in
    rw (p.1, p.2)
    (fails_on (pattern_at c.args.channels) c.in_err-pattern.field-0.0 c.loop-number.patterns.items c.args.count
    c.loop-number.number c.loop-number.reader
    (times (pattern_at c.args.channels) 0 c.args.count c.args.reader.now) c.loop-number-test.true
    c.in_err-pattern.ensures c.loop-number.invariant)

pub loop-number-preserved : goal.loop-number-preserved
loop-number-preserved c =
    rw c.in_ok-push.ensures.items
    (goes_on (pattern_at c.args.channels) c.loop-number.patterns.items c.args.count c.loop-number.number
    c.loop-number.reader c.in_ok-pattern.pattern c.read_pattern.new.reader
    (times (pattern_at c.args.channels) 0 c.args.count c.args.reader.now) c.loop-number-test.true
    c.in_ok-pattern.ensures c.loop-number.invariant)

pub returns : goal.returns
returns c =
    is_done (pattern_at c.args.channels) c.loop-number.patterns.items c.args.count c.loop-number.number
    c.loop-number.reader (times (pattern_at c.args.channels) 0 c.args.count c.args.reader.now) c.loop-number-test.false
    c.loop-number.invariant
