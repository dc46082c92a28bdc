use Rattle.std.proofs.Common.{arith}
use Rattle.ft_channel.proofs.envelope.envelope_at.Goals as goal

pub overflow_add-k : goal.overflow_add-k
overflow_add-k c =
    let f = c.last_point.ensures.found c.in-Some.k c.in-Some.is in
    omega (arith, f.within, c.requires.count)

pub bounds-env-k-2 : goal.bounds-env-k-2
bounds-env-k-2 c =
    let f = c.last_point.ensures.found c.in-Some.k c.in-Some.is in
    omega (arith, f.within, c.requires.count)

pub bounds-env-k-3 : goal.bounds-env-k-3
bounds-env-k-3 c =
    let f = c.last_point.ensures.found c.in-Some.k c.in-Some.is in
    omega (arith, f.within, c.requires.count)
