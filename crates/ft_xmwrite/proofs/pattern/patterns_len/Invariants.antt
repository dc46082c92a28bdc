use Rattle.std.proofs.Common.{◌≡◌, ◌≤◌, ◌*◌, length, take}
use Rattle.std.specs.List.{flat_map}
use Rattle.ft_format.specs.Canon.{pattern_bytes}
use Rattle.ft_xmwrite.proofs.pattern.patterns_len.Given as goal

abbrev pub invariant-loop-pattern : goal.invariant-loop-pattern
invariant-loop-pattern l = record {
  so_far : l.len ≡ length (flat_map pattern_bytes (take l.pattern-index l.pattern-items));
  few : l.len ≤ 65544 * l.pattern-index;
}
