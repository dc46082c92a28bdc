use Rattle.ft_types.specs.Valid.{IsValid}
use Rattle.ft_edit_answers.proofs.answer_script.Given as goal

abbrev pub invariant-loop-line : goal.invariant-loop-line
invariant-loop-line l = IsValid l.song
