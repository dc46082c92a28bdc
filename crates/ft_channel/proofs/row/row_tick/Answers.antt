use Rattle.std.proofs.Common.{◌≡◌, ◌∙◌, ℕ, ap}
use Rattle.ft_types.specs.declared.module.Module.{Module}
use Rattle.ft_replay.specs.Row.{row_tick_of}
use Rattle.ft_replay.specs.declared.effect.VolumeEffect.{VolumeEffect}
use Rattle.ft_replay.specs.Effects.{volume_effect_of}
use Rattle.ft_replay.specs.VolumeColumn.{volume_tick_of}
use Rattle.ft_channel.proofs.Turning.{still_turned, tick_turned, turns_shown}
use Rattle.ft_channel.proofs.row.row_tick.Goals as goal

pub strike_late-requires-clause-range : goal.strike_late-requires-clause-range
strike_late-requires-clause-range g c = c.volume_tick.ensures.stays.range c.args.c c.requires.range

pub returns-clause-turned : goal.returns-clause-turned
returns-clause-turned g c = λ w is.
    let a = c.effect_tick.ensures.shows w is in
    let b = c.strike_late.ensures.changed w a.0 in
    let slid : c.volume_tick.new.channel ≡ volume_tick_of (volume_effect_of c.args.ch.now.cell.volume) c.args.ch.now =
    c.volume_tick.ensures.value
    ∙ ap (λ (effect : VolumeEffect). volume_tick_of effect c.args.ch.now) c.of.ensures.value in (
      b.0,
      tick_turned (g.V.SongView.shown c.args.view.now w) (g.V.SongView.shown c.strike_late.new.view w)
          (g.V.SongView.shown c.effect_tick.new.view w)
          c.args.c c.args.u c.of-effect.result c.args.ch.now c.volume_tick.new.channel c.strike_late.new.ch
          c.effect_tick.new.channel c.args.ctl.now c.effect_tick.new.control
          c.of-effect.ensures.value slid b.1 a.1 (c.effect_tick.ensures.value w is),
    )

pub returns-clause-range : goal.returns-clause-range
returns-clause-range g c = c.effect_tick.ensures.stays.range c.args.c c.strike_late.ensures.range

pub returns-clause-shown : goal.returns-clause-shown
returns-clause-shown g c =
    turns_shown g.V.SongView.shows g.V.SongView.shown
    (λ (version : ℕ) (song : Module) (d : ℕ). row_tick_of version song d c.args.u) c.args.c c.args.view.now
    c.effect_tick.new.view c.args.ch.now c.effect_tick.new.channel c.args.ctl.now c.effect_tick.new.control
    (returns-clause-turned g c)

pub returns-then-is_still-clause-turned : goal.returns-then-is_still-clause-turned
returns-then-is_still-clause-turned g c = λ w is.
    let still = c.is_still.ensures c.if-is_still.true in (
      is,
      still_turned (g.V.SongView.shown c.args.view.now w) c.args.c c.args.u c.args.ch.now c.args.ctl.now still.0
          still.1.0 still.1.1,
    )

pub returns-then-is_still-clause-shown : goal.returns-then-is_still-clause-shown
returns-then-is_still-clause-shown g c =
    turns_shown g.V.SongView.shows g.V.SongView.shown
    (λ (version : ℕ) (song : Module) (d : ℕ). row_tick_of version song d c.args.u) c.args.c c.args.view.now
    c.args.view.now c.args.ch.now c.args.ch.now c.args.ctl.now c.args.ctl.now
    (returns-then-is_still-clause-turned g c)
