use Rattle.std.proofs.Common.{◌≡◌, ◌-◌, ◌<◌}
use Rattle.ft_modread.specs.Notes.{nearest_of}
use Rattle.ft_modread.proofs.note.nearest.Given as goal

abbrev pub invariant-loop-k : goal.invariant-loop-k
invariant-loop-k l = record { value : l.found ≡ nearest_of l.period (l.k - 1); low : l.found < l.k }
