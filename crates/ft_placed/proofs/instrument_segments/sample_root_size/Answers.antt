use Rattle.ft_segments.specs.Walk.{ids_of}
use Rattle.ft_placed.proofs.InInstruments.{one_sample, no_root}
use Rattle.ft_placed.proofs.instrument_segments.sample_root_size.Goals as goal

pub returns-in_default-clause-answer : goal.returns-in_default-clause-answer
returns-in_default-clause-answer g c = λ p m may shows is.
    no_root (ids_of p) c.args.at c.args.s (c.in_default.ensures.answer p m may shows is)

pub returns-clause-answer : goal.returns-clause-answer
returns-clause-answer g c = λ p m may shows is.
    one_sample (ids_of p) c.args.at c.args.s c.in-Some.field-0 (c.in-Some.ensures.answer p m may shows is)
