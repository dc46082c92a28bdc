use Rattle.std.proofs.Common.{◌≡◌, ◌++◌, map, take, drop}
use Rattle.ft_replay.specs.Tick.{without_loop}
use Rattle.ft_tick.proofs.position.end_loops.Given as goal

abbrev pub invariant-loop-channel : goal.invariant-loop-channel
invariant-loop-channel l =
    l.channels ≡ map without_loop (take l.channel-index l.fn.channels) ++ drop l.channel-index l.fn.channels
