use Rattle.std.proofs.Common.{◌≡◌, ◌≤◌, ◌++◌, drop, length, map, vec_len, vec_capacity}
use Rattle.std.specs.Int.{w8, cast_signed}
use Rattle.ft_format.specs.Sample.{sums_from, narrow_frames}
use Rattle.ft_xmread.proofs.deltas.narrow_frames.Given as goal

abbrev pub invariant-loop-step : goal.invariant-loop-step
invariant-loop-step l =
    (l.frames.items ++ map (cast_signed w8) (sums_from 256 l.value (drop l.step-index l.steps)) ≡ narrow_frames l.steps)
    × (vec_len l.frames ≡ l.step-index) × (length l.steps ≤ vec_capacity l.frames)
