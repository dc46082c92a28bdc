use Rattle.std.proofs.Common.{◌≢◌, Some, IfSome, All, take}
use Rattle.std.specs.List.{slice_get}
use Rattle.ft_shared_tests.proofs.author.is_root.Given as goal

abbrev pub invariant-loop-version : goal.invariant-loop-version
invariant-loop-version l = All (λ answer. IfSome answer (λ version. slice_get l.roots version ≢ Some l.segment))
    (take l.version-index l.versions)
