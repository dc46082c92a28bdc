use Rattle.std.proofs.Common.{rules, true, ◌≡◌, ◌<◌, ◌+◌, ◌*◌, ◌/◌, ◌%◌, ◌^◌, ◌∙◌, ℕ, None, get_or, ap, subst, arith}
use Rattle.ft_replay.specs.Sound.{value_at}
use Rattle.ft_mix.proofs.values.read_far.Goals as goal

from_frame : (position on : ℕ) → position / 2 ^ 32 * 2 ^ 32 + position % 2 ^ 32 + on ≡ position + on
from_frame position on = omega arith

pub returns-clause-values : goal.returns-clause-values
returns-clause-values g c = λ w is.
    let told : c.read_ahead.result ≡ true = search rules in
    let a = c.read_ahead.ensures.values told w is in
    let voice = c.args.voice in
    let owned = get_or (g.V.SongView.shown c.args.view.now w).kept voice.channel None in (
      a.0,
      a.1,
      λ k lt.
          c.walk.ensures.values voice.head owned (c.args.position / 2 ^ 32)
          (λ j less. a.2 j (subst (λ (n : ℕ). j < n) c.read_ahead.ensures.many less)) k lt
          ∙ ap (value_at voice.head owned) (from_frame c.args.position (k * voice.step)),
    )
