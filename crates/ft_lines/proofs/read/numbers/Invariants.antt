-- those that were read, and those that are left
use Rattle.std.proofs.Common.{◌≡◌, drop, length}
use Rattle.ft_lines.specs.Edits.{numbers_reading}
use Rattle.ft_lines.proofs.NumbersRead.{behind_numbers}
use Rattle.ft_lines.proofs.read.numbers.Given as goal

abbrev pub invariant-loop-number_type : goal.invariant-loop-number_type
invariant-loop-number_type l = record {
  reading : behind_numbers l.numbers.items (drop l.number_type-index l.types) l.line ≡ numbers_reading l.fn.types l.fn.line;
  count : length l.numbers.items ≡ l.number_type-index;
}
