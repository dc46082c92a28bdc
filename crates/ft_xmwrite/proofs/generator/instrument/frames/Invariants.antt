use Rattle.std.proofs.Common.{◌≡◌, ◌≤◌, ◌-◌, vec_len, vec_capacity}
use Rattle.ft_xmwrite.specs.Generate.{drawn_frame, drawn}
use Rattle.ft_xmwrite.proofs.Drawn.{IsFront}
use Rattle.ft_xmwrite.proofs.generator.instrument.frames.Given as goal

abbrev pub invariant-loop : goal.invariant-loop
invariant-loop l = record {
  front : IsFront drawn_frame (drawn 16384 drawn_frame l.fn.draws) l.frames.items (16384 - l.counter) l.draws;
  len : vec_len l.frames ≡ l.counter;
  room : 16384 ≤ vec_capacity l.frames;
}
