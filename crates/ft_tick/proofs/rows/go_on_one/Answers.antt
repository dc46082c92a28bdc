use Rattle.std.proofs.Common.{◌%◌, ℕ, get_or, subst, arith}
use Rattle.ft_types.specs.Views.{Shown}
use Rattle.ft_replay.specs.declared.state.Channel.{Channel}
use Rattle.ft_replay.specs.State.{blank_channel}
use Rattle.ft_replay.specs.Row.{row_tick_of}
use Rattle.ft_replay.specs.Standing.{Turned, turn_of}
use Rattle.ft_replay.specs.Tick.{later_turn}
use Rattle.ft_tick.proofs.Kept.{keeps_one, set_in_range}
use Rattle.ft_tick.proofs.Lanes.{turn_made}
use Rattle.ft_tick.proofs.rows.go_on_one.Goals as goal

pub returns-clause-made : goal.returns-clause-made
returns-clause-made g c = λ w is.
    let a = c.row_tick.ensures.turned w is in
    let before : Shown = g.V.SongView.shown c.args.view.now w in
    let after : Shown = g.V.SongView.shown c.row_tick.new.view w in
    let old : Channel = get_or c.args.channels.now c.args.c blank_channel in
    let n = c.args.c in
    let time = c.args.control.now in
    let here =
    subst
    (λ (t : ℕ).
    Turned n (row_tick_of before.version before.song n (time.tick % t) (turn_of n before old time)) before after
    c.row_tick.new.ch c.row_tick.new.ctl) c.from.ensures a.1 in (
      a.0,
      turn_made later_turn n before after time c.row_tick.new.ctl c.args.channels.now c.row_tick.new.ch
          c.requires.channel
          (omega (arith, g.met.V.SongView.wide c.args.view.now w a.0, c.requires.wide)) here,
    )

pub returns-clause-keeps : goal.returns-clause-keeps
returns-clause-keeps g c =
    keeps_one _ _ _ _ c.args.channels.now c.args.c c.row_tick.new.ch c.requires.channel c.row_tick.ensures.keeps

pub returns-clause-range : goal.returns-clause-range
returns-clause-range g c =
    set_in_range c.args.channels.now c.args.c c.row_tick.new.ch c.requires.channel c.row_tick.ensures.range
    c.requires.range
