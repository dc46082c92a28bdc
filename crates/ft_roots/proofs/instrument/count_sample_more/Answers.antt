use Rattle.std.proofs.Common.{arith}
use Rattle.ft_roots.proofs.Instruments.{count_changed, count_low}
use Rattle.ft_roots.proofs.instrument.count_sample_more.Goals as goal

pub returns : goal.returns
returns c = λ x samples ids few more has.
    let low = count_low c.args.words.now x ids has few (c.fits-words 0) in
    count_changed c.args.words.now x samples ids c.saturating_add.result c.told-words (omega (arith, c.saturating_add.ensures)) has
