use Rattle.ft_roots.proofs.Table.{sample_word, sample_shown}
use Rattle.ft_roots.proofs.sample.a_sample_has_the_words_of_its_root.Goals as goal

pub returns-clause-words : goal.returns-clause-words
returns-clause-words c = sample_word

pub returns-clause-shown : goal.returns-clause-shown
returns-clause-shown c = sample_shown
