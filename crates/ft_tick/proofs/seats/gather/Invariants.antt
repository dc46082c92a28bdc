use Rattle.std.proofs.Common.{◌≡◌, ◌≤◌, ◌++◌, length, drop, take, map}
use Rattle.ft_replay.specs.Standing.{gathered, emptied}
use Rattle.ft_tick.proofs.seats.gather.Given as goal

abbrev pub invariant-loop-c : goal.invariant-loop-c
invariant-loop-c l = record {
  voices : l.on.items ++ gathered (drop l.c l.channels) ≡ gathered l.fn.channels;
  few : length l.on.items ≤ l.c;
  channels : l.channels ≡ map emptied (take l.c l.fn.channels) ++ drop l.c l.fn.channels;
}
