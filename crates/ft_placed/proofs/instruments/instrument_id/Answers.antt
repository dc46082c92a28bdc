use Rattle.std.proofs.Common.{arith}
use Rattle.ft_placed.proofs.OfInstruments.{instrument_read}
use Rattle.ft_placed.proofs.instruments.instrument_id.Goals as goal

pub returns-clause-answer : goal.returns-clause-answer
returns-clause-answer g c = λ p m may shows is.
    instrument_read p m c.args.at _ c.instrument_root.result shows (omega arith) (c.instrument_root.ensures.answer p m may shows is)
