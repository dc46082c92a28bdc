use Rattle.std.proofs.Common.{◌≡◌, map, take, length}
use Rattle.ft_format.specs.Instrument.{point_of}
use Rattle.ft_xmread.proofs.envelopes.points_of.Given as goal

abbrev pub invariant-loop-k : goal.invariant-loop-k
invariant-loop-k l = record {
  whole : length l.low ≡ 12;
  so_far : take l.k l.low ≡ map point_of (take l.k l.points);
}
