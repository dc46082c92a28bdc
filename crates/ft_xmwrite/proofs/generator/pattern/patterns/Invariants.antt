use Rattle.std.proofs.Common.{◌≡◌, ◌≤◌, ◌-◌, vec_len, vec_capacity}
use Rattle.ft_xmwrite.specs.Generate.{drawn_pattern, drawn}
use Rattle.ft_xmwrite.proofs.Drawn.{IsFront}
use Rattle.ft_xmwrite.proofs.generator.pattern.patterns.Given as goal

abbrev pub invariant-loop : goal.invariant-loop
invariant-loop l = record {
  front : IsFront drawn_pattern (drawn 40 drawn_pattern l.fn.draws) l.patterns.items (40 - l.counter) l.draws;
  len : vec_len l.patterns ≡ l.counter;
  room : 40 ≤ vec_capacity l.patterns;
}
