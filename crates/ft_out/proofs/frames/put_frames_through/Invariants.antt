use Rattle.std.proofs.Common.{◌≡◌, ◌≤◌, ◌*◌, length}
use Rattle.ft_outer.specs.Pieces.{TakesUpTo}
use Rattle.ft_out.specs.Wav.{sound_bytes}
use Rattle.ft_out.proofs.frames.put_frames_through.Given as goal

abbrev pub invariant-loop-rest : goal.invariant-loop-rest
invariant-loop-rest g l =
    TakesUpTo (g.W.Sink.held l.fn.sink) (g.W.Sink.held l.sink) (sound_bytes l.out) (sound_bytes l.rest)
    × (g.W.Sink.faults l.sink ≡ g.W.Sink.faults l.fn.sink)
    × (2 * l.most ≤ length l.buffer)

abbrev pub decreases-loop-rest : goal.decreases-loop-rest
decreases-loop-rest g l = length l.rest
