-- the blocks of those passed, which are few
use Rattle.std.proofs.Common.{◌≡◌, ◌≤◌, ◌*◌, take, sum_by}
use Rattle.ft_types.specs.Blocks.{sample_blocks}
use Rattle.ft_types.proofs.block_count.samples_blocks.Given as goal

abbrev pub invariant-loop-sample : goal.invariant-loop-sample
invariant-loop-sample l = record {
  value : l.blocks ≡ sum_by sample_blocks (take l.sample-index l.samples);
  most : l.blocks ≤ 3845 * l.sample-index;
}
