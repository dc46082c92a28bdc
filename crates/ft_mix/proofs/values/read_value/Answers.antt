use Rattle.std.proofs.Common.{rules, ◌≡◌, ◌+◌, ◌/◌, ◌%◌, ◌^◌, ◌∙◌, ℕ, ℤ, Option, None, get_or, ap}
use Rattle.std.specs.Int.{w16, w32}
use Rattle.std.proofs.lemmas.Int.{to_z-of_z}
use Rattle.ft_types.specs.declared.voice.SampleHead.{SampleHead}
use Rattle.ft_types.specs.Views.{Owned, Shown}
use Rattle.ft_replay.specs.Sound.{value_at, value_in, place_of, between}
use Rattle.ft_mix.proofs.values.read_value.Goals as goal

-- the value between two that are reached
at_value : (head : SampleHead) (owned : Option Owned) (position : ℕ) (first second r : ℤ)
    → first ≡ value_in head owned (place_of head (position / 2 ^ 32))
    → second ≡ value_in head owned (place_of head (position / 2 ^ 32 + 1))
    → r ≡ between first second (position % 2 ^ 32) → r ≡ value_at head owned position
unfolding value_at
at_value head owned position first second r f s e =
    e ∙ ap (λ (z : ℤ). between z second (position % 2 ^ 32)) f
    ∙ ap
    (λ (z : ℤ). between (value_in head owned (place_of head (position / 2 ^ 32))) z (position % 2 ^ 32)) s

pub returns-clause-value : goal.returns-clause-value
returns-clause-value g c = λ w is.
    let head = c.args.head.now in
    let a = c.value_of-second.ensures.value w is in
    let b = c.value_of-first.ensures.value w a.0 in
    let at = c.args.position / 2 ^ 32 in
    let owned = get_or (g.V.SongView.shown c.args.view.now w).kept c.args.channel None in (
      b.0,
      a.1 ∙ b.1,
      at_value head owned c.args.position _ _ _ (to_z-of_z w16 c.value_of-first.result (search rules) ∙ b.2)
          (to_z-of_z w16 c.value_of-second.result (search rules) ∙ a.2
          ∙ ap (λ (s : Shown). value_in head (get_or s.kept c.args.channel None) (place_of head (at + 1))) b.1)
          (to_z-of_z w32 c.between.result (search rules) ∙ c.between.ensures.value),
    )
