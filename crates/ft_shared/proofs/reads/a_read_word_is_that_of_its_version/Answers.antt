use Rattle.ft_shared.proofs.ReadWords.{held_word, pinned_word}
use Rattle.ft_shared.proofs.reads.a_read_word_is_that_of_its_version.Goals as goal

pub returns-clause-held : goal.returns-clause-held
returns-clause-held c = held_word

pub returns-clause-pinned : goal.returns-clause-pinned
returns-clause-pinned c = pinned_word
