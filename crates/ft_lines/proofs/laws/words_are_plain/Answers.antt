use Rattle.ft_lines.proofs.PlainBytes.{plain_decimal, plain_signed, plain_words}
use Rattle.ft_lines.proofs.laws.words_are_plain.Goals as goal

pub returns-clause-numbers : goal.returns-clause-numbers
returns-clause-numbers c = plain_decimal

pub returns-clause-signed : goal.returns-clause-signed
returns-clause-signed c = plain_signed

pub returns-clause-edits : goal.returns-clause-edits
returns-clause-edits c = plain_words
