use Rattle.std.proofs.Common.{◌≡◌, ◌≤◌, ◌-◌, vec_len, vec_capacity}
use Rattle.ft_xmwrite.specs.Generate.{drawn_instrument, drawn}
use Rattle.ft_xmwrite.proofs.Drawn.{IsFront}
use Rattle.ft_xmwrite.proofs.generator.instrument.instruments.Given as goal

abbrev pub invariant-loop : goal.invariant-loop
invariant-loop l = record {
  front : IsFront drawn_instrument (drawn 16 drawn_instrument l.fn.draws) l.instruments.items (16 - l.counter) l.draws;
  len : vec_len l.instruments ≡ l.counter;
  room : 16 ≤ vec_capacity l.instruments;
}
