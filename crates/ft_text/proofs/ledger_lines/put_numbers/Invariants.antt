-- the numbers that were passed are behind what was there
use Rattle.std.proofs.Common.{◌≡◌, ◌++◌, map, take, decimal}
use Rattle.ft_lines.specs.Texts.{spaced}
use Rattle.ft_text.proofs.ledger_lines.put_numbers.Given as goal

abbrev pub invariant-loop-number : goal.invariant-loop-number
invariant-loop-number l = l.text.items ≡ l.initial.text.items ++ spaced (map decimal (take l.number-index l.numbers))
