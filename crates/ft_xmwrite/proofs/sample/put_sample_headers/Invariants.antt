use Rattle.std.proofs.Common.{◌≡◌, ◌++◌, take}
use Rattle.std.specs.List.{flat_map}
use Rattle.ft_format.specs.Canon.{sample_header_bytes}
use Rattle.ft_xmwrite.proofs.sample.put_sample_headers.Given as goal

abbrev pub invariant-loop-sample : goal.invariant-loop-sample
invariant-loop-sample l =
    l.bytes.items ≡ l.fn.bytes.items ++ flat_map sample_header_bytes (take l.sample-index l.samples)
