use Rattle.std.proofs.Common.{arith}
use Rattle.ft_roots.proofs.Instruments.{count_changed, count_there}
use Rattle.ft_roots.proofs.instrument.count_sample_less.Goals as goal

pub returns : goal.returns
returns c = λ x samples ids less has.
    let some = count_there c.args.words.now x ids has in
    count_changed c.args.words.now x samples ids c.saturating_sub.result c.told-words (omega (arith, c.saturating_sub.ensures)) has
