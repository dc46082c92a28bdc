use Rattle.ft_types.specs.Valid.{IsValid}
use Rattle.ft_bench_edits.proofs.apply_once.Given as goal

abbrev pub invariant-loop-edit : goal.invariant-loop-edit
invariant-loop-edit l = IsValid l.song
