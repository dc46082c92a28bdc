use Rattle.std.proofs.Common.{◌≡◌, None, replicate}
use Rattle.ft_player.proofs.seats.no_seats.Given as goal

-- as many as turns were taken
abbrev pub invariant-loop : goal.invariant-loop
invariant-loop l = l.seats.items ≡ replicate l.counter None
