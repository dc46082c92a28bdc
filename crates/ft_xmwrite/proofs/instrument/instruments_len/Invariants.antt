use Rattle.std.proofs.Common.{◌≡◌, ◌≤◌, ◌*◌, length, take}
use Rattle.std.specs.List.{flat_map}
use Rattle.ft_format.specs.Canon.{instrument_bytes}
use Rattle.ft_xmwrite.proofs.instrument.instruments_len.Given as goal

abbrev pub invariant-loop-instrument : goal.invariant-loop-instrument
invariant-loop-instrument l = record {
  so_far : l.len ≡ length (flat_map instrument_bytes (take l.instrument-index l.instruments));
  few : l.len ≤ 125830023 * l.instrument-index;
}
