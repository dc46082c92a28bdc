use Rattle.ft_types.specs.Valid.{IsValid}
use Rattle.ft_edit_answers.proofs.edits.put_edits.Given as goal

abbrev pub invariant-loop-edit : goal.invariant-loop-edit
invariant-loop-edit g l = IsValid l.song
