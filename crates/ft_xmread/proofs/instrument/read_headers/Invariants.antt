use Rattle.std.proofs.Common.{◌≡◌, ◌-◌}
use Rattle.ft_xmread.specs.Reader.{times}
use Rattle.ft_xmread.specs.Sample.{sample_header_at}
use Rattle.ft_xmread.proofs.Loop.{with_front}
use Rattle.ft_xmread.proofs.instrument.read_headers.Given as goal

abbrev pub invariant-loop-number : goal.invariant-loop-number
invariant-loop-number l =
    with_front l.headers.items (times (sample_header_at l.instrument) l.number (l.count - l.number) l.reader)
    ≡ times (sample_header_at l.instrument) 0 l.count l.fn.reader
