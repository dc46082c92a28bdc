use Rattle.ft_roots.proofs.Table.{instrument_word, instrument_shown}
use Rattle.ft_roots.proofs.Instruments.{samples_changed}
use Rattle.ft_roots.proofs.instrument.an_instrument_has_the_words_of_its_root.Goals as goal

pub returns-clause-words : goal.returns-clause-words
returns-clause-words c = instrument_word

pub returns-clause-shown : goal.returns-clause-shown
returns-clause-shown c = instrument_shown

pub returns-clause-samples : goal.returns-clause-samples
returns-clause-samples c = samples_changed
