use Rattle.std.proofs.Common.{◌≡◌, ℕ, get_or, set, ap, subst, ◌∙◌, arith}
use Rattle.ft_types.specs.declared.pattern.Cell.{Cell}
use Rattle.ft_types.specs.Views.{Shown, cell_at, order_at}
use Rattle.ft_replay.specs.declared.state.Channel.{Channel}
use Rattle.ft_replay.specs.State.{blank_channel}
use Rattle.ft_replay.specs.Row.{row_start_of}
use Rattle.ft_replay.specs.Standing.{Turned, turn_of}
use Rattle.ft_replay.specs.Tick.{first_turn}
use Rattle.ft_tick.proofs.Kept.{keeps_lead, keeps_one, set_in_range}
use Rattle.ft_tick.proofs.Lanes.{turn_made}
use Rattle.ft_tick.proofs.Ranges.{with_cell_in_range}
use Rattle.ft_tick.proofs.rows.start_one.Goals as goal

pub returns-clause-made : goal.returns-clause-made
returns-clause-made g c = λ w is.
    let a = c.row_start.ensures.turned w is in
    let b = c.cell-cell.ensures.shows w a.0 in
    let d = c.order-pattern.ensures.shows w b.0 in
    let before : Shown = g.V.SongView.shown c.args.view.now w in
    let after : Shown = g.V.SongView.shown c.row_start.new.view w in
    let old : Channel = get_or c.args.channels.now c.args.c blank_channel in
    let n = c.args.c in
    let time = c.args.control.now in
    let cell : c.cell-cell.result ≡ cell_at before.song (order_at before.song time.pos) time.row n =
    c.cell-cell.ensures.value w a.0 ∙ ap (λ (s : Shown). cell_at s.song c.order-pattern.result time.row n) d.1
    ∙ ap (λ (p : ℕ). cell_at before.song p time.row n) (c.order-pattern.ensures.value w b.0) in
    let here =
    subst
    (λ (s : Shown).
    Turned n
    (row_start_of s.version s.song n c.cell-cell.result
    (turn_of n s (record old { cell = c.cell-cell.result }) time)) s after c.row_start.new.ch
    c.row_start.new.ctl) (b.1 ∙ d.1) a.1 in (
      d.0,
      turn_made first_turn n before after time c.row_start.new.ctl c.args.channels.now c.row_start.new.ch
          c.requires.channel
          (omega (arith, g.met.V.SongView.wide c.args.view.now w d.0, c.requires.wide))
          (subst (λ (x : Cell). Turned n (row_start_of before.version before.song n x (turn_of n before (record old { cell = x }) time)) before after c.row_start.new.ch c.row_start.new.ctl) cell here),
    )

pub row_start-requires-clause-range : goal.row_start-requires-clause-range
row_start-requires-clause-range g c =
    with_cell_in_range c.args.c (get_or c.args.channels.now c.args.c blank_channel) c.cell-cell.result
    (c.requires.range c.args.c c.requires.channel) c.cell-cell.ensures.range

pub returns-clause-keeps : goal.returns-clause-keeps
returns-clause-keeps g c =
    keeps_lead _ _ _ _ _ _ c.args.channels.now (set c.args.channels.now c.args.c c.row_start.new.ch)
    (λ d h k. c.cell-cell.ensures.keeps d h (c.order-pattern.ensures.keeps d h k))
    (c.cell-cell.ensures.holds ∙ c.order-pattern.ensures.holds)
    (keeps_one _ _ _ _ c.args.channels.now c.args.c c.row_start.new.ch c.requires.channel c.row_start.ensures.keeps)

pub returns-clause-range : goal.returns-clause-range
returns-clause-range g c =
    set_in_range c.args.channels.now c.args.c c.row_start.new.ch c.requires.channel c.row_start.ensures.range
    c.requires.range

pub returns-clause-same : goal.returns-clause-same
returns-clause-same g c =
    g.met.V.SongView.same_through _ _ _
    (g.met.V.SongView.same_through _ _ _ c.order-pattern.ensures.same c.cell-cell.ensures.same)
    c.row_start.ensures.same
