use Rattle.std.proofs.Common.{◌≡◌, ◌+◌, ◌==◌, drop}
use Rattle.std.specs.List.{position_or_len}
use Rattle.ft_lines.proofs.cursor.length_of.Given as goal

abbrev pub invariant-loop-i : goal.invariant-loop-i
invariant-loop-i l = l.i + position_or_len (λ b. b == 32) (drop l.i l.bytes) ≡ position_or_len (λ b. b == 32) l.bytes
