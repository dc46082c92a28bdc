use Rattle.std.proofs.Common.{◌≡◌, ◌-◌}
use Rattle.ft_xmread.specs.Reader.{times}
use Rattle.ft_xmread.specs.Pattern.{pattern_at}
use Rattle.ft_xmread.proofs.Loop.{with_front}
use Rattle.ft_xmread.proofs.pattern.read_patterns.Given as goal

abbrev pub invariant-loop-number : goal.invariant-loop-number
invariant-loop-number l =
    with_front l.patterns.items (times (pattern_at l.channels) l.number (l.count - l.number) l.reader)
    ≡ times (pattern_at l.channels) 0 l.count l.fn.reader
