use Rattle.std.proofs.Common.{◌≡◌, ◌+◌, ℕ}
use Rattle.ft_shared.specs.Pass.{fresh_passes}
use Rattle.ft_shared_tests.proofs.threads.followers_of.Given as goal

abbrev pub invariant-loop-given : goal.invariant-loop-given
invariant-loop-given l = (n : ℕ) × (n + l._given ≡ 8) × (l.passes ≡ fresh_passes l.shared n)
