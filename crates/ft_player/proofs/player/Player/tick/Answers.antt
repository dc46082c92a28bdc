use Rattle.std.proofs.Common.{rules, ◌≡◌, ◌≤◌, ◌+◌, refl, sym, ap, subst, ◌∙◌}
use Rattle.ft_shared.specs.Pass.{ReaderState, RegisterId}
use Rattle.ft_image.specs.Passes.{AreCounted}
use Rattle.ft_player.specs.Behind.{AreSongsBehind}
use Rattle.ft_player.specs.Inner.{player_state}
use Rattle.ft_replay.specs.Tick.{seq_tick, tick_state_of}
use Rattle.ft_play.specs.Mixed.{voices_of}
use Rattle.ft_player.specs.Songs.{song_at}
use Rattle.ft_player.specs.Bounds.{step_bound, slow_bound}
use Rattle.ft_player.specs.Player.{PlayerState, HasLooked, stood_by}
use Rattle.ft_player.proofs.Bounded.{through, within, within_slow}
use Rattle.ft_player.proofs.Ordered.{all_exact, counted_on, has_looked, ordered}
use Rattle.ft_player.proofs.Renewing.{stood}
use Rattle.ft_player.proofs.player.Player.tick.Goals as goal

pub invariant_of-view : goal.invariant_of-view
invariant_of-view g c =
    let o = c.self.invariant.order in
    let r = c.renew-held.ensures.renewed in
    let reg = c.renew-held.ensures.register in
    let same = ap (λ (p : PlayerState). p.pass.register) c.self.view_is ∙ c.requires.same in
    record {
      here = reg ∙ same;
      held = r.holds;
      many = o.many ∙ ap (λ (x : RegisterId). x.sizes.channels) same;
      pins = r.pins ∙ o.pins;
      seated = λ songs d stands. o.seated songs d
          (stood songs c.self.inside.pass c.renew-held.new.pass c.renew-held.result reg r o.taken stands);
    }

pub invariant_of-self : goal.invariant_of-self
invariant_of-self g c =
    let o = c.self.invariant.order in
    let t = c.play_tick-at.ensures in
    let view = c.play_tick-at.new.view in
    let same = ap (λ (p : PlayerState). p.pass.register) c.self.view_is ∙ c.requires.same in
    record {
      held = ap (λ (x : ReaderState). x.notes.held) t.same.6.is ∙ c.renew-held.ensures.renewed.holds;
      order = ordered (player_state c.self.inside) _ c.renew-held.new.pass c.renew-held.result o
          c.renew-held.ensures.register c.renew-held.ensures.renewed t.same.6 refl t.used t.range
          (view.many ∙ ap (λ (x : RegisterId). x.sizes.channels) (sym t.same.0 ∙ sym same)) view.pins
          (all_exact _ _ _ _ t.wide t.exact o.sounding) t.kept view.seated;
    }

pub returns-clause-played : goal.returns-clause-played
returns-clause-played g c = λ songs stands.
    let o = c.self.invariant.order in
    let t = c.play_tick-at.ensures in
    let m = t.made songs stands in
    let before = stood songs c.self.inside.pass c.renew-held.new.pass c.renew-held.result c.renew-held.ensures.register
    c.renew-held.ensures.renewed o.taken m.0 in
    let version = c.renew-held.result.version in
    let song = song_at songs version in (
      subst (λ (p : PlayerState). AreSongsBehind songs p.pass) c.self.view_is before,
      record {
        place = t.place songs stands
            ∙ ap (λ (p : PlayerState). (seq_tick version song p.rate (stood_by songs p)).place) c.self.view_is;
        sound = t.sound songs stands
            ∙ ap (λ (p : PlayerState). (seq_tick version song p.rate (stood_by songs p)).sound) c.self.view_is;
        state = m.1.state
            ∙ ap (λ (p : PlayerState). (seq_tick version song p.rate (stood_by songs p)).state) c.self.view_is;
        mixed = t.mixed songs stands
            ∙ ap (λ (p : PlayerState). voices_of (tick_state_of version song p.rate (stood_by songs p)).state.lanes)
            c.self.view_is;
      },
    )

pub returns-clause-looked : goal.returns-clause-looked
returns-clause-looked g c =
    subst (λ (p : PlayerState). HasLooked p.pass.notes c.play_tick-at.new.view.pass.now.notes c.renew-held.result.version)
    c.self.view_is
    (has_looked c.self.inside.pass c.renew-held.new.pass c.play_tick-at.new.view.pass.now c.renew-held.result
    c.renew-held.ensures.renewed c.play_tick-at.ensures.same.6 c.self.invariant.order.taken)

pub returns-clause-counted : goal.returns-clause-counted
returns-clause-counted g c =
    let after = c.play_tick-at.new.view.steps.now in
    let pass = c.play_tick-at.new.view.pass.now in
    let counted : AreCounted c.args.self.now.pass pass c.args.steps.now after =
    subst (λ (p : PlayerState). AreCounted p.pass pass c.args.steps.now after) c.self.view_is
    (counted_on c.self.inside.pass c.renew-held.new.pass pass c.args.steps.now c.renew-held.new.steps after
    c.renew-held.ensures.counted c.play_tick-at.ensures.same.7) in
    search (rules, counted)

pub returns-clause-order : goal.returns-clause-order
returns-clause-order g c =
    let o = c.self.invariant.order in
    let t = c.play_tick-at.ensures in
    let view = c.play_tick-at.new.view in
    let same = ap (λ (p : PlayerState). p.pass.register) c.self.view_is ∙ c.requires.same in
    ordered (player_state c.self.inside) _ c.renew-held.new.pass c.renew-held.result o
    c.renew-held.ensures.register c.renew-held.ensures.renewed t.same.6 refl t.used t.range
    (view.many ∙ ap (λ (x : RegisterId). x.sizes.channels) (sym t.same.0 ∙ sym same)) view.pins
    (all_exact _ _ _ _ t.wide t.exact o.sounding) t.kept view.seated

pub returns-clause-steps : goal.returns-clause-steps
returns-clause-steps g c =
    let t = c.play_tick-at.ensures in
    let o = c.self.invariant.order in
    let r = c.renew-held.ensures.steps in
    let same : c.self.inside.song.used ≡ c.args.self.now.pass.register.sizes.channels
    = o.used ∙ ap (λ (p : PlayerState). p.pass.register.sizes.channels) c.self.view_is in
    let frames = c.play_tick-at.result.frames in
    let channels = c.args.self.now.pass.register.sizes.channels in
    let after = c.play_tick-at.new.view.steps.now in
    let low : c.args.steps.now ≤ after = through c.args.steps.now c.renew-held.new.steps after r.0 t.work.0 in
    let high : after ≤ c.args.steps.now + step_bound channels frames =
    within c.self.inside.song.used channels frames c.args.steps.now c.renew-held.new.steps after same r.1 t.work.1 in
    search (rules, low, high)

pub returns-clause-slow : goal.returns-clause-slow
returns-clause-slow g c = λ slow.
    let t = c.play_tick-at.ensures in
    let o = c.self.invariant.order in
    let r = c.renew-held.ensures.steps in
    let same : c.self.inside.song.used ≡ c.args.self.now.pass.register.sizes.channels
    = o.used ∙ ap (λ (p : PlayerState). p.pass.register.sizes.channels) c.self.view_is in
    let frames = c.play_tick-at.result.frames in
    let channels = c.args.self.now.pass.register.sizes.channels in
    let after = c.play_tick-at.new.view.steps.now in
    let high : after ≤ c.args.steps.now + slow_bound channels frames =
    within_slow c.self.inside.song.used channels frames c.args.steps.now c.renew-held.new.steps after
    c.play_tick-at.new.mixed.items same t.few_voices r.1 t.cost slow in
    search (rules, high)
