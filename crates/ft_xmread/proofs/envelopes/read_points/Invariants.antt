use Rattle.std.proofs.Common.{◌≡◌, ◌-◌, length, take}
use Rattle.ft_xmread.specs.Reader.{times}
use Rattle.ft_xmread.specs.Instrument.{point_spelled_at}
use Rattle.ft_xmread.proofs.Loop.{with_front}
use Rattle.ft_xmread.proofs.envelopes.read_points.Given as goal

abbrev pub invariant-loop-k : goal.invariant-loop-k
invariant-loop-k l = record {
  whole : length l.points ≡ 12;
  so_far :
      with_front (take l.k l.points) (times (λ _. point_spelled_at) l.k (12 - l.k) l.reader)
      ≡ times (λ _. point_spelled_at) 0 12 l.fn.reader;
}
