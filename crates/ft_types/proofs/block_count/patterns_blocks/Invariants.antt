-- the blocks of those passed, which are few
use Rattle.std.proofs.Common.{◌≡◌, ◌≤◌, ◌*◌, take, sum_by}
use Rattle.ft_types.specs.Blocks.{pattern_blocks}
use Rattle.ft_types.proofs.block_count.patterns_blocks.Given as goal

abbrev pub invariant-loop-pattern : goal.invariant-loop-pattern
invariant-loop-pattern l = record {
  value : l.blocks ≡ sum_by (pattern_blocks l.channels) (take l.pattern-index l.patterns);
  most : l.blocks ≤ 33 * l.pattern-index;
}
