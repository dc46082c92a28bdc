use Rattle.ft_outer.proofs.Taken.{nothing_yet, goes_on_whole, ends_within, all_taken, Appends-then}
use Rattle.ft_outer.proofs.laws.taking_law.Goals as goal

pub returns-clause-first : goal.returns-clause-first
returns-clause-first c = nothing_yet

pub returns-clause-next : goal.returns-clause-next
returns-clause-next c = goes_on_whole

pub returns-clause-front : goal.returns-clause-front
returns-clause-front c = ends_within

pub returns-clause-whole : goal.returns-clause-whole
returns-clause-whole c = all_taken

pub returns-clause-joined : goal.returns-clause-joined
returns-clause-joined c = Appends-then
