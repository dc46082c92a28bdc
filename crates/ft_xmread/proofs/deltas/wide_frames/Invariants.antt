use Rattle.std.proofs.Common.{◌≡◌, ◌≤◌, ◌*◌, ◌++◌, drop, map, vec_len, vec_capacity}
use Rattle.std.specs.Int.{w16, cast_signed}
use Rattle.ft_format.specs.Sample.{sums_from, pairs_of, wide_frames}
use Rattle.ft_xmread.proofs.deltas.wide_frames.Given as goal

abbrev pub invariant-loop-i : goal.invariant-loop-i
invariant-loop-i l =
    (l.frames.items ++ map (cast_signed w16) (sums_from 65536 l.value (pairs_of (drop (2 * l.i) l.steps)))
    ≡ wide_frames l.steps)
    × (vec_len l.frames ≡ l.i) × (l.count ≤ vec_capacity l.frames)
