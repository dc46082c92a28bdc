use Rattle.std.proofs.Common.{ap}
use Rattle.ft_bench_register.proofs.measure.Goals as goal

pub look_often-requires : goal.look_often-requires
look_often-requires g c = ap (λ p. p.register) (c.in-Some.ensures.fresh c.in_ok-shared.shared 7 c.in_ok-shared.ensures.passes).0

pub turn_often-requires-clause-same : goal.turn_often-requires-clause-same
turn_often-requires-clause-same g c = (
  ap (λ w. w.register) c.in_ok-shared.ensures.writer,
  ap (λ p. p.register) (c.in-Some.ensures.fresh c.in_ok-shared.shared 7 c.in_ok-shared.ensures.passes).0,
)

pub turn_often-requires-clause-free : goal.turn_often-requires-clause-free
turn_often-requires-clause-free g c = ap (λ p. p.notes.held)
    (c.in-Some.ensures.fresh c.in_ok-shared.shared 7 c.in_ok-shared.ensures.passes).0
