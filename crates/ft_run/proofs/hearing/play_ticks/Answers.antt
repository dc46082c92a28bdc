use Rattle.std.proofs.Common.{◌≡◌, ◌∷◌, [], ◌++◌, ◌-◌, ◌*◌, ◌+◌, ℕ, ℤ, List, take, refl, sym, ap, subst, ◌∙◌, arith}
use Rattle.std.proofs.lemmas.List.{length-append, take_all}
use Rattle.std.proofs.lemmas.Result.{err_from_is_err_and}
use Rattle.ft_run.specs.Ticks.{AreMissing, HasPlayedTicks, cut_sound}
use Rattle.ft_run.proofs.Missing.{cut_on, missing_push}
use Rattle.ft_run.proofs.TicksPlayed.{piece_of, plays_never, plays_on}
use Rattle.ft_run.proofs.hearing.play_ticks.Goals as goal

pub loop-left-init : goal.loop-left-init
loop-left-init g c = record {
  same = c.requires.same;
  few = omega arith;
  played = (
    [],
    refl,
    plays_never
        (λ ticks. AreMissing c.args.frames ticks c.args.frames
        × g.E.Listener.heard c.args.ear.now c.args.ear.now (cut_sound c.args.frames ticks))
        c.args.player.now (
          refl,
          subst (g.E.Listener.heard c.args.ear.now c.args.ear.now) (sym (take_all (2 * c.args.frames) [] (omega arith)))
              (c.hearing_law.ensures.nothing c.args.ear.now),
        ),
  );
}

pub loop-left-preserved : goal.loop-left-preserved
loop-left-preserved g c =
    let l = c.loop-left in
    let frames = c.args.frames in
    let report = c.tick-tick.result in
    let count = c.min-count.result in
    let some = c.tick-tick.ensures.some_frames in
    let least = c.min-count.ensures in
    let few = l.invariant.few in
    let p = l.invariant.played in
    record {
      same = c.tick-tick.ensures.register ∙ l.invariant.same;
      few = omega (arith, few, some, least);
      played = (
        p.0 ++ report.version ∷ [],
        length-append p.0 (report.version ∷ []) ∙ ap (λ (n : ℕ). n + 1) p.1,
        plays_on c.replay_law.ensures.ticks c.replay_law.ensures.state
            (λ ticks. AreMissing frames ticks l.left × g.E.Listener.heard c.args.ear.now l.ear (cut_sound frames ticks))
            (λ ticks. AreMissing frames ticks (l.left - count)
            × g.E.Listener.heard c.args.ear.now c.hear.new.self (cut_sound frames ticks))
            c.args.player.now l.player c.tick-tick.new.self p.0 report c.tick-tick.new.out p.2
            c.tick-tick.ensures.register c.tick-tick.ensures.rate c.tick-tick.ensures.looked c.tick-tick.ensures.played
            c.tick-tick.ensures.few_frames (omega (arith, c.tick-tick.ensures.many))
            (λ ticks t true is. (
              subst (AreMissing frames (ticks ++ t ∷ []))
                  (let same = is.frames in let e : l.left - t.place.frames ≡ l.left - count = omega (arith, same, least) in e)
                  (missing_push frames l.left ticks t true.0 (omega arith) (let same = is.frames in omega (arith, same, some))
                  (is.long ∙ ap (λ (n : ℕ). 2 * n) (sym is.frames))),
              subst (g.E.Listener.heard c.args.ear.now c.hear.new.self)
                  (sym (cut_on frames l.left report.frames count ticks t true.0 (omega arith) is.long least))
                  (c.hearing_law.ensures.joined c.args.ear.now l.ear c.hear.new.self (cut_sound frames ticks)
                  (take (2 * count) t.sound) true.1
                  (subst (λ (numbers : List ℤ). g.E.Listener.heard l.ear c.hear.new.self numbers)
                  (piece_of c.tick-tick.new.out t.sound report.frames count is.sound (omega (arith, least)))
                  c.in_ok-hear.ensures.whole)),
            )),
      );
    }

pub returns-in_err-hear-clause-front : goal.returns-in_err-hear-clause-front
returns-in_err-hear-clause-front g c =
    let l = c.loop-left in
    let frames = c.args.frames in
    let report = c.tick-tick.result in
    let count = c.min-count.result in
    let some = c.tick-tick.ensures.some_frames in
    let least = c.min-count.ensures in
    let p = l.invariant.played in
    let e = err_from_is_err_and c.from_residual.result c.from_residual.ensures.1 in
    rw e.1 (
      p.0 ++ report.version ∷ [],
      plays_on c.replay_law.ensures.ticks c.replay_law.ensures.state
          (λ ticks. AreMissing frames ticks l.left × g.E.Listener.heard c.args.ear.now l.ear (cut_sound frames ticks))
          (λ ticks. ((missing : ℕ) × AreMissing frames ticks missing)
          × g.E.Listener.failed c.args.ear.now c.hear.new.self (cut_sound frames ticks))
          c.args.player.now l.player c.tick-tick.new.self p.0 report c.tick-tick.new.out p.2
          c.tick-tick.ensures.register c.tick-tick.ensures.rate c.tick-tick.ensures.looked c.tick-tick.ensures.played
          c.tick-tick.ensures.few_frames (omega (arith, c.tick-tick.ensures.many))
          (λ ticks t true is. (
            (
              l.left - t.place.frames,
              missing_push frames l.left ticks t true.0 (omega arith) (let same = is.frames in omega (arith, same, some))
                  (is.long ∙ ap (λ (n : ℕ). 2 * n) (sym is.frames)),
            ),
            subst (g.E.Listener.failed c.args.ear.now c.hear.new.self)
                (sym (cut_on frames l.left report.frames count ticks t true.0 (omega arith) is.long least))
                (c.hearing_law.ensures.cut c.args.ear.now l.ear c.hear.new.self (cut_sound frames ticks)
                (take (2 * count) t.sound) true.1
                (subst (λ (numbers : List ℤ). g.E.Listener.failed l.ear c.hear.new.self numbers)
                (piece_of c.tick-tick.new.out t.sound report.frames count is.sound (omega (arith, least)))
                c.in_err-hear.ensures.front)),
          )),
    )

pub returns-clause-whole : goal.returns-clause-whole
returns-clause-whole g c =
    let l = c.loop-left in
    let p = l.invariant.played in (
      p.0,
      p.1,
      subst
          (λ (missing : ℕ). HasPlayedTicks c.args.player.now l.player p.0
          (λ ticks. AreMissing c.args.frames ticks missing
          × g.E.Listener.heard c.args.ear.now l.ear (cut_sound c.args.frames ticks)))
          (omega arith) p.2,
    )
