use Rattle.std.proofs.Common.{◌≡◌, ℤ, pos, negsuc, ◌+ℤ◌, ◌*ℤ◌, ◌^◌, ℕ, refl, ap, ◌∙◌, arith}
use Rattle.std.proofs.lemmas.Int.{ints}
use Rattle.ft_tables.specs.Pitch.{floor_div}
use Rattle.ft_replay.specs.Sound.{gained}
use Rattle.ft_mix.proofs.voice.add_voice.Goals as goal

times_none : (value : ℤ) → (value *ℤ pos 0) ≡ pos 0
times_none (pos a) = omega (arith, ints)
times_none (negsuc a) = omega (arith, ints)

gained_none : (value : ℤ) → gained value 0 ≡ pos 0
unfolding gained
gained_none value = ap (λ (z : ℤ). floor_div z (2 ^ 18)) (times_none value)

-- without gain a sum stays
stays : (sum value : ℤ) (gain : ℕ) → gain ≡ 0 → sum ≡ (sum +ℤ gained value gain)
stays sum value gain e =
    let none : gained value gain ≡ pos 0 = ap (gained value) e ∙ gained_none value in
    omega (arith, ints, none)

pub returns-then-voice-eq0-2-clause-sums : goal.returns-then-voice-eq0-2-clause-sums
returns-then-voice-eq0-2-clause-sums g c = λ w is. (
  is,
  refl,
  λ k lt. (
    stays _ _ c.args.voice.left (omega arith),
    stays _ _ c.args.voice.right (omega arith),
  ),
)
