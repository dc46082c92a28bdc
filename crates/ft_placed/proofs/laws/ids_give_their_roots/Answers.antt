use Rattle.ft_changes.specs.Ids.{samples_of}
use Rattle.ft_placed.proofs.Lists.{root_there}
use Rattle.ft_placed.proofs.OfPatterns as patterns
use Rattle.ft_placed.proofs.OfInstruments.{root_of, sample_root}
use Rattle.ft_placed.proofs.laws.ids_give_their_roots.Goals as goal

pub returns-clause-patterns : goal.returns-clause-patterns
returns-clause-patterns c = λ ids p x is. root_there patterns.root_of ids.patterns p x is

pub returns-clause-instruments : goal.returns-clause-instruments
returns-clause-instruments c = λ ids at x is. root_there root_of ids.instruments at x is

pub returns-clause-samples : goal.returns-clause-samples
returns-clause-samples c = λ ids at s x is. root_there sample_root (samples_of ids at) s x is
