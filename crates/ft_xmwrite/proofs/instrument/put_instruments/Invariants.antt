use Rattle.std.proofs.Common.{◌≡◌, ◌++◌, take}
use Rattle.std.specs.List.{flat_map}
use Rattle.ft_format.specs.Canon.{instrument_bytes}
use Rattle.ft_xmwrite.proofs.instrument.put_instruments.Given as goal

abbrev pub invariant-loop-instrument : goal.invariant-loop-instrument
invariant-loop-instrument l =
    l.bytes.items ≡ l.fn.bytes.items ++ flat_map instrument_bytes (take l.instrument-index l.instruments)
