use Rattle.std.proofs.Common.{◌≡◌}
use Rattle.ft_shared_tests.proofs.threads.saw_newer.Given as goal

abbrev pub invariant-loop : goal.invariant-loop
invariant-loop g l = record {
  same : l.pass.register ≡ l.fn.pass.register;
  pins : l.pass.notes.pins ≡ l.fn.pass.notes.pins;
  held : l.pass.notes.held ≡ l.fn.pass.notes.held;
}
