use Rattle.std.proofs.Common.{rules, ◌≡◌, ◌+◌, ◌*◌, ◌/◌, ◌%◌, ◌^◌, ◌∙◌, ℕ, ℤ, Option, ap, arith}
use Rattle.std.specs.Int.{w16, w32}
use Rattle.std.proofs.lemmas.Int.{to_z-of_z}
use Rattle.ft_types.specs.declared.voice.SampleHead.{SampleHead}
use Rattle.ft_types.specs.Views.{Owned}
use Rattle.ft_replay.specs.Sound.{value_at, value_in, place_of, between}
use Rattle.ft_mix.proofs.values.value_between.Goals as goal

-- what is between two values that are reached is the value there
value_is : (head : SampleHead) (owned : Option Owned) (at place : ℕ) (first second : ℤ)
    → first ≡ value_in head owned (place_of head (at + place / 2 ^ 32))
    → second ≡ value_in head owned (place_of head (at + (place / 2 ^ 32 + 1)))
    → between first second (place % 2 ^ 32) ≡ value_at head owned (at * 2 ^ 32 + place)
unfolding value_at
value_is head owned at place first second f s =
    let v : ℕ → ℤ = λ n. value_in head owned (place_of head n) in
    let here : at + place / 2 ^ 32 ≡ (at * 2 ^ 32 + place) / 2 ^ 32 = omega arith in
    let next : at + (place / 2 ^ 32 + 1) ≡ (at * 2 ^ 32 + place) / 2 ^ 32 + 1 = omega arith in
    let fraction : place % 2 ^ 32 ≡ (at * 2 ^ 32 + place) % 2 ^ 32 = omega arith in
    ap (λ (z : ℤ). between z second (place % 2 ^ 32)) (f ∙ ap v here)
    ∙ ap (λ (z : ℤ). between (v ((at * 2 ^ 32 + place) / 2 ^ 32)) z (place % 2 ^ 32)) (s ∙ ap v next)
    ∙ ap (between (v ((at * 2 ^ 32 + place) / 2 ^ 32)) (v ((at * 2 ^ 32 + place) / 2 ^ 32 + 1))) fraction

pub returns-clause-value : goal.returns-clause-value
returns-clause-value c = λ head owned at are.
    let place = c.args.place in
    let first = to_z-of_z w16 _ (c.requires.range (place / 2 ^ 32) (omega (arith, c.requires.reached))) in
    let second = to_z-of_z w16 _ (c.requires.range (place / 2 ^ 32 + 1) c.requires.reached) in
    to_z-of_z w32 c.between.result (search rules) ∙ c.between.ensures.value
    ∙ value_is head owned at place _ _ (first ∙ are (place / 2 ^ 32) (omega (arith, c.requires.reached)))
    (second ∙ are (place / 2 ^ 32 + 1) c.requires.reached)
