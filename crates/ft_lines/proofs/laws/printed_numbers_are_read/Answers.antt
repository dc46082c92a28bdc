use Rattle.ft_lines.proofs.ValuesBack.{number_back, i64_back}
use Rattle.ft_lines.proofs.ValuesInRange.{number_within, signed_64}
use Rattle.ft_lines.proofs.laws.printed_numbers_are_read.Goals as goal

pub returns-clause-back : goal.returns-clause-back
returns-clause-back c = number_back

pub returns-clause-signed_back : goal.returns-clause-signed_back
returns-clause-signed_back c = i64_back

pub returns-clause-within : goal.returns-clause-within
returns-clause-within c = number_within

pub returns-clause-signed_within : goal.returns-clause-signed_within
returns-clause-signed_within c = signed_64
