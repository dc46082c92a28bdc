use Rattle.std.proofs.Common.{◌≡◌, ◌+◌, ◌==◌, drop}
use Rattle.std.specs.List.{prefix_len}
use Rattle.ft_lines.proofs.cursor.spaces_of.Given as goal

abbrev pub invariant-loop-i : goal.invariant-loop-i
invariant-loop-i l = l.i + prefix_len (λ b. b == 32) (drop l.i l.bytes) ≡ prefix_len (λ b. b == 32) l.bytes
