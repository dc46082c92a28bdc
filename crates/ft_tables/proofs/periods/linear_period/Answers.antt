use Rattle.std.proofs.Common.{◌*◌, ◌∙◌, ap, arith, ℤ, pos, to_z, of_z, w8, w32}
use Rattle.std.specs.Prelude.{nat_abs, ◌-ℤ◌, ◌*ℤ◌}
use Rattle.std.proofs.lemmas.Int.{ints, to_z-of_z}
use Rattle.ft_tables.specs.Pitch.{linear_period_of, floor_div}
use Rattle.ft_tables.proofs.periods.linear_period.Goals as goal

pub returns-clause-value : goal.returns-clause-value
unfolding linear_period_of
returns-clause-value c =
    ap nat_abs
    {x = to_z w32 (of_z w32 (to_z w32 (of_z w32 (pos 7680 -ℤ to_z w32 (of_z w32 (pos 64 *ℤ to_z w32 (of_z w32 c.from.result))))) -ℤ to_z w32 (of_z w32 c.from-2.result)))}
    {y = (pos 7680 -ℤ pos (64 * c.args.note)) -ℤ c.half_down.result} (omega (arith, ints))
    ∙ ap (λ (half : ℤ). nat_abs ((pos 7680 -ℤ pos (64 * c.args.note)) -ℤ half)) c.half_down.ensures.value
    ∙ ap (λ (finetune : ℤ). nat_abs ((pos 7680 -ℤ pos (64 * c.args.note)) -ℤ floor_div finetune 2))
    (to_z-of_z w8 c.args.finetune c.ranges.finetune)
