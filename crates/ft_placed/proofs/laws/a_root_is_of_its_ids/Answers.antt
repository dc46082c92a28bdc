use Rattle.ft_changes.specs.Ids.{samples_of}
use Rattle.ft_placed.proofs.Lists.{of_root}
use Rattle.ft_placed.proofs.OfPatterns as patterns
use Rattle.ft_placed.proofs.OfInstruments.{root_of, sample_root}
use Rattle.ft_placed.proofs.laws.a_root_is_of_its_ids.Goals as goal

pub returns-clause-patterns : goal.returns-clause-patterns
returns-clause-patterns c = λ ids p r is. of_root patterns.root_of ids.patterns p r is

pub returns-clause-instruments : goal.returns-clause-instruments
returns-clause-instruments c = λ ids at r is. of_root root_of ids.instruments at r is

pub returns-clause-samples : goal.returns-clause-samples
returns-clause-samples c = λ ids at s r is. of_root sample_root (samples_of ids at) s r is
