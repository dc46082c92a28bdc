use Rattle.std.proofs.Common.{◌≡◌, ◌+◌, ◌*◌, ◌^◌, ◌<◌, ◌≤◌, vec_len, vec_capacity}
use Rattle.ft_modread.specs.declared.layout.TheConstants.{SAMPLES}
use Rattle.ft_modread.specs.Layout.{each}
use Rattle.ft_modread.specs.Songs.{data_place, instrument_in}
use Rattle.ft_modread.proofs.sample.instruments_of.Given as goal

abbrev pub invariant-loop-i : goal.invariant-loop-i
invariant-loop-i l = record {
  items : l.instruments.items ≡ each l.i (instrument_in l.file);
  place : l.place ≡ data_place l.file l.i;
  near : l.place < 2 ^ 32 + 2 ^ 17 * l.i;
  len : vec_len l.instruments ≡ l.i;
  room : SAMPLES ≤ vec_capacity l.instruments;
}
