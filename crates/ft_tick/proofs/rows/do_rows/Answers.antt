use Rattle.std.proofs.Common.{◌%◌, ℕ, length, refl, ap, sym, ◌∙◌}
use Rattle.ft_types.specs.declared.module.Module.{Module}
use Rattle.ft_types.specs.Views.{Shown}
use Rattle.ft_replay.specs.State.{SequentialState}
use Rattle.ft_replay.specs.Standing.{state_of}
use Rattle.ft_replay.specs.Tick.{after_rows, in_turn, first_turn, later_turn}
use Rattle.ft_tick.proofs.Kept.{keeps_here}
use Rattle.ft_tick.proofs.Lanes.{made_from}
use Rattle.ft_tick.proofs.Ranges.{cleared_in_range}
use Rattle.ft_tick.proofs.RowRules.{rows_first, rows_again, rows_later, keeps_cleared}
use Rattle.ft_tick.proofs.rows.do_rows.Goals as goal

pub start_all-requires-clause-range : goal.start_all-requires-clause-range
start_all-requires-clause-range g c =
    cleared_in_range c.args.channels.now c.clear_all.new.channels c.clear_all.ensures c.requires.range

pub go_on_all-requires-clause-range : goal.go_on_all-requires-clause-range
go_on_all-requires-clause-range g c =
    cleared_in_range c.args.channels.now c.clear_all.new.channels c.clear_all.ensures c.requires.range

pub returns-then-control-from-eq0-clause-range : goal.returns-then-control-from-eq0-clause-range
returns-then-control-from-eq0-clause-range g c =
    cleared_in_range c.args.channels.now c.clear_all.new.channels c.clear_all.ensures c.requires.range

pub returns-then-control-eq0-clause-made : goal.returns-then-control-eq0-clause-made
returns-then-control-eq0-clause-made g c = λ w is.
    let a = c.start_all.ensures.made w is in
    let s : Shown = g.V.SongView.shown c.args.view.now w in (
      a.0,
      made_from
          (λ (version : ℕ) (song : Module) (state : SequentialState).
          in_turn (first_turn version song) (length c.clear_all.new.channels) state) after_rows s
          (g.V.SongView.shown c.start_all.new.view w) (state_of c.args.control.now c.clear_all.new.channels s)
          (state_of c.args.control.now c.args.channels.now s) _
          (rows_first s.version s.song c.args.control.now c.args.channels.now c.clear_all.new.channels s
          c.clear_all.ensures c.if-control-eq0.true) a.1,
    )

pub returns-then-control-eq0-clause-keeps : goal.returns-then-control-eq0-clause-keeps
returns-then-control-eq0-clause-keeps g c =
    keeps_cleared _ _ _ _ c.args.channels.now c.clear_all.new.channels _ c.clear_all.ensures c.start_all.ensures.keeps

pub returns-then-control-from-eq0-clause-made : goal.returns-then-control-from-eq0-clause-made
returns-then-control-from-eq0-clause-made g c = λ w is.
    let s : Shown = g.V.SongView.shown c.args.view.now w in (
      is,
      record {
        version = refl;
        song = refl;
        state = rows_again s.version s.song c.args.control.now c.args.channels.now c.clear_all.new.channels s
            c.clear_all.ensures c.if-control-eq0.false
            (ap (λ (t : ℕ). c.args.control.now.tick % t) (sym c.from.ensures) ∙ c.if-control-from-eq0.true);
      },
    )

pub returns-then-control-from-eq0-clause-keeps : goal.returns-then-control-from-eq0-clause-keeps
returns-then-control-from-eq0-clause-keeps g c =
    keeps_cleared _ _ _ _ c.args.channels.now c.clear_all.new.channels _ c.clear_all.ensures (keeps_here _ _ _)

pub returns-clause-made : goal.returns-clause-made
returns-clause-made g c = λ w is.
    let a = c.go_on_all.ensures.made w is in
    let s : Shown = g.V.SongView.shown c.args.view.now w in (
      a.0,
      made_from
          (λ (version : ℕ) (song : Module) (state : SequentialState).
          in_turn (later_turn version song) (length c.clear_all.new.channels) state) after_rows s
          (g.V.SongView.shown c.go_on_all.new.view w) (state_of c.args.control.now c.clear_all.new.channels s)
          (state_of c.args.control.now c.args.channels.now s) _
          (rows_later s.version s.song c.args.control.now c.args.channels.now c.clear_all.new.channels s
          c.clear_all.ensures c.if-control-eq0.false
          (λ e. c.if-control-from-eq0.false (ap (λ (t : ℕ). c.args.control.now.tick % t) c.from.ensures ∙ e))) a.1,
    )

pub returns-clause-keeps : goal.returns-clause-keeps
returns-clause-keeps g c =
    keeps_cleared _ _ _ _ c.args.channels.now c.clear_all.new.channels _ c.clear_all.ensures c.go_on_all.ensures.keeps
