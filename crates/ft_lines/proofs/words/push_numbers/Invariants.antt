-- the numbers that were passed are behind what was there
use Rattle.std.proofs.Common.{◌≡◌, ◌++◌, map, take}
use Rattle.std.specs.Fmt.{signed_decimal}
use Rattle.ft_lines.specs.Texts.{spaced}
use Rattle.ft_lines.proofs.words.push_numbers.Given as goal

abbrev pub invariant-loop-number : goal.invariant-loop-number
invariant-loop-number l = l.text.items ≡ l.initial.text.items ++ spaced (map signed_decimal (take l.number-index l.numbers))
