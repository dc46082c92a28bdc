use Rattle.ft_desk.proofs.Answered.{marked_is_found, unmarked_is_not_found}
use Rattle.ft_desk.proofs.laws.marked_is_found.Goals as goal

pub returns-clause-fit : goal.returns-clause-fit
returns-clause-fit c = λ desk is version placed at unwritten. is.born version placed at unwritten

pub returns-clause-marked : goal.returns-clause-marked
returns-clause-marked c = marked_is_found c.marks_law.ensures.kept

pub returns-clause-given : goal.returns-clause-given
returns-clause-given c = unmarked_is_not_found
