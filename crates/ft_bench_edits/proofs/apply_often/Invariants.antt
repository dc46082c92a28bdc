use Rattle.ft_types.specs.Valid.{IsValid}
use Rattle.ft_bench_edits.proofs.apply_often.Given as goal

abbrev pub invariant-loop-done : goal.invariant-loop-done
invariant-loop-done l = IsValid l.song
