use Rattle.std.proofs.Common.{List, get_or, ap, ◌∙◌}
use Rattle.ft_replay.specs.declared.state.Channel.{Channel}
use Rattle.ft_replay.specs.State.{Lane, blank_channel}
use Rattle.ft_replay.specs.Standing.{lanes_of}
use Rattle.ft_replay.specs.Tick.{without_loop}
use Rattle.ft_tick.proofs.Ranges.{at_map, ended_in_range}
use Rattle.ft_tick.proofs.Lanes.{lanes_of-map}
use Rattle.ft_tick.proofs.position.set_position.Goals as goal

pub returns-clause-state : goal.returns-clause-state
returns-clause-state c = λ shown.
    ap
    (λ (lanes : List Lane).
    record { control = record c.args.control.now { pos = c.args.position; row = c.args.row }; lanes = lanes })
    (ap (λ (channels : List Channel). lanes_of channels shown.kept) c.end_loops.ensures
    ∙ lanes_of-map without_loop c.args.channels.now shown.kept)

pub returns-clause-voices : goal.returns-clause-voices
returns-clause-voices c = λ d lt.
    ap (λ (channels : List Channel). (get_or channels d blank_channel).voice) c.end_loops.ensures
    ∙ ap (λ (channel : Channel). channel.voice) (at_map without_loop c.args.channels.now d blank_channel lt)

pub returns-clause-range : goal.returns-clause-range
returns-clause-range c = ended_in_range c.args.channels.now c.end_loops.new.channels c.end_loops.ensures
