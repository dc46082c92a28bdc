use Rattle.std.proofs.Common.{◌≢◌, All, take}
use Rattle.ft_shared_tests.proofs.author.is_pinned.Given as goal

abbrev pub invariant-loop-root : goal.invariant-loop-root
invariant-loop-root l = All (λ root. root ≢ l.segment) (take l.root-index l.pins)
