use Rattle.std.proofs.Common.{◌≡◌, ◌≤◌, ◌+◌, ◌^◌, ◌++◌, drop, length, map, vec_len, vec_capacity}
use Rattle.std.specs.Int.{w8, cast_unsigned}
use Rattle.ft_format.specs.Canon.{steps_from}
use Rattle.ft_xmwrite.proofs.deltas.put_narrow.Given as goal

abbrev pub invariant-loop-frame : goal.invariant-loop-frame
invariant-loop-frame l = record {
  steps :
      l.bytes.items ++ steps_from (2 ^ 8) l.before (map (cast_unsigned w8) (drop l.frame-index l.frames))
      ≡ l.fn.bytes.items ++ steps_from (2 ^ 8) 0 (map (cast_unsigned w8) l.frames);
  room : vec_len l.bytes + length (drop l.frame-index l.frames) ≤ vec_capacity l.bytes;
}
