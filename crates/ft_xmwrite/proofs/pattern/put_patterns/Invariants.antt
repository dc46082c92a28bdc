use Rattle.std.proofs.Common.{◌≡◌, ◌++◌, take}
use Rattle.std.specs.List.{flat_map}
use Rattle.ft_format.specs.Canon.{pattern_bytes}
use Rattle.ft_xmwrite.proofs.pattern.put_patterns.Given as goal

abbrev pub invariant-loop-pattern : goal.invariant-loop-pattern
invariant-loop-pattern l =
    l.bytes.items ≡ l.fn.bytes.items ++ flat_map pattern_bytes (take l.pattern-index l.pattern-items)
