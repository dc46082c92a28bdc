use Rattle.std.proofs.Common.{rules, ◌≡◌, ◌<◌, ◌+◌, ◌*◌, ◌∙◌, ℕ, ℤ, pos, None, length, get_or, ap, subst, sym, arith}
use Rattle.std.specs.Int.{w16, w32}
use Rattle.std.specs.Prelude.{FitsSigned}
use Rattle.std.proofs.lemmas.Int.{to_z-of_z}
use Rattle.ft_types.specs.Views.{Shown}
use Rattle.ft_replay.specs.Sound.{value_at}
use Rattle.ft_mix.proofs.Stored.{more}
use Rattle.ft_mix.proofs.values.read_leaps.Goals as goal

pub loop-value-preserved : goal.loop-value-preserved
loop-value-preserved g c =
    let i = c.loop-value.value-index in
    let place = c.loop-value.place in
    let on = c.loop-value.invariant.place in
    let voice = c.args.voice in
    let within : i < length c.loop-value.values = omega arith in
    let fits : FitsSigned w32 c.read_value.result = search rules in
    let back = to_z-of_z w32 c.read_value.result fits in
    record {
      place = grind arith;
      values = λ w is.
          let a = c.read_value.ensures.value w is in
          let b = c.loop-value.invariant.values w a.0 in
          let owned = get_or (g.V.SongView.shown c.args.view.now w).kept voice.channel None in (
            b.0,
            a.1 ∙ b.1,
            more (λ (k : ℕ) (x : ℤ). x ≡ value_at voice.head owned (c.args.position + k * voice.step))
                c.loop-value.values i _ (pos 0) within b.2
                (back ∙ a.2 ∙ ap (λ (s : Shown). value_at voice.head (get_or s.kept voice.channel None) place) b.1
                ∙ ap (value_at voice.head owned) on),
          );
      range =
          more (λ (k : ℕ) (x : ℤ). FitsSigned w16 x) c.loop-value.values i _ (pos 0) within c.loop-value.invariant.range
          (subst (FitsSigned w16) (sym back) c.read_value.ensures.range);
      holds = c.read_value.ensures.holds ∙ c.loop-value.invariant.holds;
      keeps = λ k h s. c.read_value.ensures.keeps k h (c.loop-value.invariant.keeps k h s);
      work = omega arith;
      same = g.met.V.SongView.same_through _ _ _ c.loop-value.invariant.same c.read_value.ensures.same;
    }
