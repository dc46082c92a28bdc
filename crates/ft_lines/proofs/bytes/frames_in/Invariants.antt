use Rattle.std.proofs.Common.{◌≡◌, length}
use Rattle.ft_lines.specs.Values.{doubles}
use Rattle.ft_lines.proofs.FrameWords.{in_front}
use Rattle.ft_lines.proofs.bytes.frames_in.Given as goal

abbrev pub decreases-loop-rest : goal.decreases-loop-rest
decreases-loop-rest l = length l.rest

abbrev pub invariant-loop-rest : goal.invariant-loop-rest
invariant-loop-rest l = in_front l.frames.items (doubles l.rest) ≡ doubles l.bytes
