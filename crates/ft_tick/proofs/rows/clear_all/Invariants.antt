use Rattle.std.proofs.Common.{◌≡◌, ◌++◌, map, take, drop}
use Rattle.ft_replay.specs.Tick.{without_offsets}
use Rattle.ft_tick.proofs.rows.clear_all.Given as goal

abbrev pub invariant-loop-channel : goal.invariant-loop-channel
invariant-loop-channel l =
    l.channels ≡ map without_offsets (take l.channel-index l.fn.channels) ++ drop l.channel-index l.fn.channels
