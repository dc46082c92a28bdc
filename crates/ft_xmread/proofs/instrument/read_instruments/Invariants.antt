use Rattle.std.proofs.Common.{◌≡◌, ◌-◌, ◌+◌}
use Rattle.ft_xmread.specs.Reader.{times}
use Rattle.ft_xmread.specs.Instrument.{instrument_spelled_at}
use Rattle.ft_xmread.proofs.Loop.{with_front}
use Rattle.ft_xmread.proofs.instrument.read_instruments.Given as goal

abbrev pub invariant-loop-k : goal.invariant-loop-k
invariant-loop-k l =
    with_front l.instruments.items (times (λ k. instrument_spelled_at (k + 1)) l.k (l.count - l.k) l.reader)
    ≡ times (λ k. instrument_spelled_at (k + 1)) 0 l.count l.fn.reader
