use Rattle.ft_types.specs.Valid.{IsValid}
use Rattle.ft_bench_edits.proofs.apply_lines.Given as goal

abbrev pub invariant-loop-at : goal.invariant-loop-at
invariant-loop-at l = IsValid l.song
