use Rattle.std.proofs.Common.{◌≡◌, drop}
use Rattle.ft_xmread.specs.Instrument.{samples_spelled_at}
use Rattle.ft_xmread.proofs.Loop.{with_front}
use Rattle.ft_xmread.proofs.instrument.read_samples.Given as goal

abbrev pub invariant-loop-header : goal.invariant-loop-header
invariant-loop-header l =
    with_front l.samples.items (samples_spelled_at (drop l.header-index l.headers) l.reader) ≡ samples_spelled_at l.headers l.fn.reader
