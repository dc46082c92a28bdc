-- the bytes of the frames that were passed
use Rattle.std.proofs.Common.{◌≡◌, take}
use Rattle.ft_lines.specs.Words.{frame_bytes}
use Rattle.ft_lines.proofs.words.bytes_of.Given as goal

abbrev pub invariant-loop-frame : goal.invariant-loop-frame
invariant-loop-frame l = l.bytes.items ≡ frame_bytes (take l.frame-index l.frames)
