use Rattle.std.proofs.Common.{◌≡◌, ◌-◌, length}
use Rattle.ft_lines.specs.Lines.{others_reading, edits_behind}
use Rattle.ft_lines.proofs.read.others.Given as goal

abbrev pub invariant-loop : goal.invariant-loop
invariant-loop l = record {
  reading : edits_behind l.batch (others_reading (16 - l.counter)) l.line ≡ edits_behind l.fn.batch (others_reading 15) l.fn.line;
  count : length l.batch ≡ l.counter;
}
