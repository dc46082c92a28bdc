use Rattle.std.proofs.Common.{◌≡◌, ◌∙◌, arith, ap, subst, sym, ℤ, ◌+ℤ◌}
use Rattle.std.specs.Int.{w16}
use Rattle.std.specs.Prelude.{FitsSigned, ◌-ℤ◌}
use Rattle.std.proofs.lemmas.Int.{ints, to_z-of_z}
use Rattle.ft_replay.specs.Sound as sound
use Rattle.ft_mix.proofs.Parts.{Goes, part_goes, rise_fits}
use Rattle.ft_mix.proofs.line.between.Goals as goal

first_is : (c : goal.After-part) → c.from-first.result ≡ c.args.first
first_is c = c.from-first.ensures ∙ to_z-of_z w16 c.args.first c.ranges.first

second_is : (c : goal.After-part) → c.from-second.result ≡ c.args.second
second_is c = c.from-second.ensures ∙ to_z-of_z w16 c.args.second c.ranges.second

-- the part is that of the rise from one value to the next
given : (c : goal.After-part) → c.part.result ≡ sound.part (c.args.second -ℤ c.args.first) c.args.fraction
given c =
    let one = first_is c in
    let other = second_is c in
    let a = c.ranges.first in
    let b = c.ranges.second in
    c.part.ensures ∙ ap (λ (s : ℤ). sound.part s c.args.fraction) (omega (arith, ints))

fits : (c : goal.After-part) → FitsSigned w16 (c.args.first +ℤ c.part.result)
fits c =
    let a = c.ranges.first in
    let b = c.ranges.second in
    let rise = c.args.second -ℤ c.args.first in
    rise_fits c.args.first rise c.part.result a (omega (arith, ints))
    (subst (Goes rise) (sym (given c)) (part_goes rise c.args.fraction (omega arith)))

pub overflow_add-result : goal.overflow_add-result
overflow_add-result c =
    let sum = fits c in
    let one = first_is c in
    let a = c.ranges.first in
    omega (arith, ints)

pub returns-clause-value : goal.returns-clause-value
unfolding sound.between
returns-clause-value c =
    let sum = fits c in
    let one = first_is c in
    let a = c.ranges.first in
    omega (arith, ints) ∙ ap (λ (r : ℤ). c.args.first +ℤ r) (given c)

pub returns-clause-range : goal.returns-clause-range
returns-clause-range c =
    let sum = fits c in
    let one = first_is c in
    let a = c.ranges.first in
    omega (arith, ints)
