use Rattle.std.proofs.Common.{◌≡◌, ◌≤◌, ◌+◌, ◌*◌, ◌^◌, ◌++◌, drop, length, map, vec_len, vec_capacity}
use Rattle.std.specs.Int.{w16, cast_unsigned}
use Rattle.std.specs.List.{flat_map}
use Rattle.ft_format.specs.Canon.{steps_from}
use Rattle.ft_format.specs.Fields.{two_bytes}
use Rattle.ft_xmwrite.proofs.deltas.put_wide.Given as goal

abbrev pub invariant-loop-frame : goal.invariant-loop-frame
invariant-loop-frame l = record {
  steps :
      l.bytes.items
      ++ flat_map two_bytes (steps_from (2 ^ 16) l.before (map (cast_unsigned w16) (drop l.frame-index l.frames)))
      ≡ l.fn.bytes.items ++ flat_map two_bytes (steps_from (2 ^ 16) 0 (map (cast_unsigned w16) l.frames));
  room : vec_len l.bytes + 2 * length (drop l.frame-index l.frames) ≤ vec_capacity l.bytes;
}
