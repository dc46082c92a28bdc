use Rattle.std.proofs.Common.{◌≡◌, map, min, take, length}
use Rattle.ft_xmread.proofs.envelopes.map_of.Given as goal

abbrev pub invariant-loop-k : goal.invariant-loop-k
invariant-loop-k l = record {
  whole : length l.low ≡ 96;
  so_far : take l.k l.low ≡ map (min 15) (take l.k l.samples);
}
