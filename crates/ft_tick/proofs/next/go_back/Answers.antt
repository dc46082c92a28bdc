use Rattle.std.proofs.Common.{◌∙◌, ℕ, ap, sym}
use Rattle.ft_replay.specs.State.{Lane, blank_channel}
use Rattle.ft_replay.specs.Standing.{state_of}
use Rattle.ft_tick.proofs.Lanes.{get_or-lanes_of}
use Rattle.ft_tick.proofs.next.go_back.Goals as goal

pub returns-clause-state : goal.returns-clause-state
returns-clause-state c = λ shown.
    let row = c.from-control.ensures
    ∙ sym
    (ap (λ (l : Lane). l.channel.loop_row)
    (get_or-lanes_of c.args.channels.now shown.kept c.args.c blank_channel c.requires)) in
    ap (λ (r : ℕ). state_of (record c.args.control.now { row = r }) c.args.channels.now shown) row
