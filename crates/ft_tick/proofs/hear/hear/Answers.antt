use Rattle.std.proofs.Common.{◌≡◌, ◌<◌, false, length, get_or, set, ap, sym, ◌∙◌, arith}
use Rattle.std.proofs.lemmas.List.{get_or_default, set-get_or}
use Rattle.std.proofs.lemmas.List.Edits.{map_over_more}
use Rattle.ft_types.specs.Views.{Shown}
use Rattle.ft_types.specs.declared.module.Module.{Module}
use Rattle.ft_replay.specs.State.{blank_channel}
use Rattle.ft_replay.specs.Hearing.{heard_channel}
use Rattle.ft_tick.proofs.Kept.{set_in_range, keeps_one, keeps_then, keeps_voice}
use Rattle.ft_tick.proofs.hear.hear.Goals as goal

pub loop-c-preserved : goal.loop-c-preserved
loop-c-preserved g c =
    let l = c.loop-c in
    let many : length l.channels ≡ length c.args.channels.now = l.invariant.keeps_all.many in
    let inside : l.c < length l.channels = omega arith in
    record {
      shows = λ w is.
          let a = c.hear_one.ensures.shows w is in
          let b = l.invariant.shows w a.0 in (b.0, a.1 ∙ b.1);
      value = λ w is.
          let a = c.hear_one.ensures.shows w is in
          let b = l.invariant.shows w a.0 in
          let rule = λ (song : Module). heard_channel c.args.rate c.args.control.now song in
          let old = get_or l.channels l.c blank_channel in
          let song = (g.V.SongView.shown c.args.view.now w).song in
          ap (set l.channels l.c) (c.hear_one.ensures.value w is ∙ ap (λ (s : Shown). rule s.song old) b.1)
          ∙ map_over_more (rule song) c.args.channels.now l.channels l.c old (omega arith) (l.invariant.value w a.0)
          (get_or_default l.channels l.c blank_channel _ inside);
      range =
          set_in_range l.channels l.c c.hear_one.new.channel inside
          (c.hear_one.ensures.range l.c (l.invariant.range l.c inside)) l.invariant.range;
      keeps_all = keeps_then _ _ _ _ _ _ _ _ _ l.invariant.keeps_all
          (keeps_one _ _ _ _ l.channels l.c c.hear_one.new.channel inside
          (keeps_voice _ _ _ _ l.c _ _ c.hear_one.ensures.holds c.hear_one.ensures.keeps (c.hear_one.ensures.kept l.c)
          c.hear_one.ensures.sounds
          (sym (set-get_or (g.V.SongView.holds l.view) l.c false))));
      holds = c.hear_one.ensures.holds ∙ l.invariant.holds;
      keeps = λ d h is. c.hear_one.ensures.keeps d h (l.invariant.keeps d h is);
      work = (omega arith, omega arith);
      same = g.met.V.SongView.same_through _ _ _ l.invariant.same c.hear_one.ensures.same;
    }
