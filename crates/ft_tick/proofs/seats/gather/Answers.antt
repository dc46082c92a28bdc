use Rattle.std.proofs.Common.{◌<◌, arith, length, get_or}
use Rattle.std.proofs.lemmas.List.{get_or_default}
use Rattle.std.proofs.lemmas.List.Edits.{map_over_more}
use Rattle.ft_replay.specs.State.{blank_channel}
use Rattle.ft_replay.specs.Standing.{emptied, gathered}
use Rattle.ft_tick.proofs.Seating.{more_gathered}
use Rattle.ft_tick.proofs.seats.gather.Goals as goal

pub loop-c-preserved : goal.loop-c-preserved
loop-c-preserved c =
    let i = c.loop-c.c in
    let channels = c.loop-c.channels in
    let within : i < length channels = omega arith in
    record {
      voices =
          rw (c.take_voice.ensures.on, c.take_voice.ensures.channels)
          (more_gathered c.loop-c.on.items channels i (emptied (get_or channels i blank_channel))
          (gathered c.args.channels.now) within c.loop-c.invariant.voices);
      few = omega arith;
      channels =
          rw c.take_voice.ensures.channels
          (map_over_more emptied c.args.channels.now channels i (get_or channels i blank_channel) (omega arith)
          c.loop-c.invariant.channels (get_or_default channels i blank_channel _ within));
    }
