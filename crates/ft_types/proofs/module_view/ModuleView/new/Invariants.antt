use Rattle.std.proofs.Common.{◌≡◌, None, replicate}
use Rattle.ft_types.proofs.module_view.ModuleView.new.Given as goal

-- as many as turns were taken
abbrev pub invariant-loop : goal.invariant-loop
invariant-loop l = l.kept.items ≡ replicate l.counter None
