use Rattle.std.proofs.Common.{arith, get_or}
use Rattle.std.proofs.lemmas.List.{get_or_default}
use Rattle.std.proofs.lemmas.List.Edits.{map_over_more}
use Rattle.ft_replay.specs.State.{blank_channel}
use Rattle.ft_replay.specs.Tick.{without_loop}
use Rattle.ft_tick.proofs.position.end_loops.Goals as goal

pub loop-channel-preserved : goal.loop-channel-preserved
loop-channel-preserved c =
    let l = c.loop-channel in
    rw c.end_loop.ensures (map_over_more without_loop c.args.channels.now l.channels l.channel-index
    (get_or l.channels l.channel-index blank_channel) (omega arith) l.invariant
    (get_or_default l.channels l.channel-index blank_channel _ (omega arith)))
