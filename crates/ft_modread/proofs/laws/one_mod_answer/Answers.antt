use Rattle.ft_modread.proofs.Clauses.{either, one_song, one_fault, not_both}
use Rattle.ft_modread.proofs.Passes.{never_memory}
use Rattle.ft_modread.proofs.laws.one_mod_answer.Goals as goal

pub returns : goal.returns
returns c = record { either = either; one_song = one_song; one_fault = one_fault; not_both = not_both; memory = never_memory }
