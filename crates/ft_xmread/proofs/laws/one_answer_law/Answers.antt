use Rattle.ft_xmread.proofs.Clauses.{either, one_song, one_fault, no_fault}
use Rattle.ft_xmread.proofs.laws.one_answer_law.Goals as goal

pub returns : goal.returns
returns c = record { either = either; one_song = one_song; one_fault = one_fault; not_both = no_fault }
