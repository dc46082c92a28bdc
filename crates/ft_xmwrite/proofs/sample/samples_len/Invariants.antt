use Rattle.std.proofs.Common.{◌≡◌, ◌≤◌, ◌+◌, ◌*◌, length, take}
use Rattle.std.specs.List.{flat_map}
use Rattle.ft_format.specs.Canon.{sample_header_bytes, sample_data}
use Rattle.ft_xmwrite.proofs.sample.samples_len.Given as goal

abbrev pub invariant-loop-sample : goal.invariant-loop-sample
invariant-loop-sample l = record {
  so_far :
      l.len
      ≡ length (flat_map sample_header_bytes (take l.sample-index l.samples))
      + length (flat_map sample_data (take l.sample-index l.samples));
  few : l.len ≤ 7864360 * l.sample-index;
}
