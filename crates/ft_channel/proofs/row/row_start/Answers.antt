use Rattle.std.proofs.Common.{◌∙◌, ℕ, ap, sym}
use Rattle.ft_types.specs.declared.module.Module.{Module}
use Rattle.ft_replay.specs.Row.{is_delayed, row_start_of}
use Rattle.ft_channel.proofs.Turning.{delayed_turned, empty_turned, start_turned, turns_shown}
use Rattle.ft_channel.proofs.row.row_start.Goals as goal

pub strike-requires-clause-range : goal.strike-requires-clause-range
strike-requires-clause-range g c = c.remember_offset.ensures.stays.range c.args.c c.requires.range

pub returns-clause-turned : goal.returns-clause-turned
returns-clause-turned g c = λ w is.
    let a = c.effect_start.ensures.shows w is in
    let b = c.strike.ensures.changed w a.0 in (
      b.0,
      start_turned (g.V.SongView.shown c.args.view.now w) (g.V.SongView.shown c.strike.new.view w)
          (g.V.SongView.shown c.effect_start.new.view w)
          c.args.c c.args.cell c.of-effect.result c.args.ch.now c.remember_offset.new.ch c.strike.new.ch
          c.effect_start.new.channel c.args.ctl.now c.effect_start.new.control
          c.of-effect.ensures.value (sym c.is_delayed.ensures ∙ c.if-is_delayed.false) c.remember_offset.ensures.value
          b.1 a.1 (c.effect_start.ensures.value w is),
    )

pub returns-clause-range : goal.returns-clause-range
returns-clause-range g c = c.effect_start.ensures.stays.range c.args.c c.strike.ensures.range

pub returns-clause-shown : goal.returns-clause-shown
returns-clause-shown g c =
    turns_shown g.V.SongView.shows g.V.SongView.shown
    (λ (version : ℕ) (song : Module) (d : ℕ). row_start_of version song d c.args.cell) c.args.c c.args.view.now
    c.effect_start.new.view c.args.ch.now c.effect_start.new.channel c.args.ctl.now c.effect_start.new.control
    (returns-clause-turned g c)

pub returns-then-is_delayed-clause-turned : goal.returns-then-is_delayed-clause-turned
returns-then-is_delayed-clause-turned g c = λ w is. (
  is,
  delayed_turned (g.V.SongView.shown c.args.view.now w) c.args.c c.args.cell c.args.ch.now c.args.ctl.now
      (ap is_delayed (sym c.of-effect.ensures.value) ∙ sym c.is_delayed.ensures ∙ c.if-is_delayed.true),
)

pub returns-then-is_delayed-clause-shown : goal.returns-then-is_delayed-clause-shown
returns-then-is_delayed-clause-shown g c =
    turns_shown g.V.SongView.shows g.V.SongView.shown
    (λ (version : ℕ) (song : Module) (d : ℕ). row_start_of version song d c.args.cell) c.args.c c.args.view.now
    c.args.view.now c.args.ch.now c.args.ch.now c.args.ctl.now c.args.ctl.now
    (returns-then-is_delayed-clause-turned g c)

pub returns-then-is_empty-clause-turned : goal.returns-then-is_empty-clause-turned
returns-then-is_empty-clause-turned g c = λ w is.
    let empty = c.is_empty.ensures c.if-is_empty.true in (
      is,
      empty_turned (g.V.SongView.shown c.args.view.now w) c.args.c c.args.cell c.args.ch.now c.args.ctl.now
          empty.0 empty.1.0 empty.1.1.0 empty.1.1.1.0 empty.1.1.1.1,
    )

pub returns-then-is_empty-clause-shown : goal.returns-then-is_empty-clause-shown
returns-then-is_empty-clause-shown g c =
    turns_shown g.V.SongView.shows g.V.SongView.shown
    (λ (version : ℕ) (song : Module) (d : ℕ). row_start_of version song d c.args.cell) c.args.c c.args.view.now
    c.args.view.now c.args.ch.now c.args.ch.now c.args.ctl.now c.args.ctl.now
    (returns-then-is_empty-clause-turned g c)
