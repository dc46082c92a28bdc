-- the blocks of those passed, which are few
use Rattle.std.proofs.Common.{◌≡◌, ◌≤◌, ◌*◌, take, sum_by}
use Rattle.ft_types.specs.Blocks.{instrument_blocks}
use Rattle.ft_types.proofs.block_count.instruments_blocks.Given as goal

abbrev pub invariant-loop-instrument : goal.invariant-loop-instrument
invariant-loop-instrument l = record {
  value : l.blocks ≡ sum_by instrument_blocks (take l.instrument-index l.instruments);
  most : l.blocks ≤ 61521 * l.instrument-index;
}
