use Rattle.std.proofs.Common.{◌≡◌, ◌++◌, take}
use Rattle.std.specs.List.{flat_map}
use Rattle.ft_format.specs.Instrument.{point_text}
use Rattle.ft_xmwrite.proofs.instrument.put_points.Given as goal

abbrev pub invariant-loop-point : goal.invariant-loop-point
invariant-loop-point l = l.bytes.items ≡ l.fn.bytes.items ++ flat_map point_text (take l.point-index l.points)
