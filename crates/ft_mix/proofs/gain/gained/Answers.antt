use Rattle.std.proofs.Common.{ℕ, suc, ◌≤◌, ◌*◌, sym, subst, arith, ℤ, pos, negsuc, ◌*ℤ◌, to_z, w32}
use Rattle.std.specs.Prelude.{◌≤ℤ◌, FitsSigned}
use Rattle.std.proofs.lemmas.Int.{ints, to_z-of_z, to_z_pos}
use Rattle.std.proofs.lemmas.Nat.{mul-le}
use Rattle.ft_mix.proofs.gain.gained.Goals as goal

-- a value of 16 bits times a gain fits 32 bits
product_fits : (value : ℤ) (gain : ℕ) → gain ≤ 65536 → negsuc 32767 ≤ℤ value → value ≤ℤ pos 32767
    → FitsSigned w32 (value *ℤ pos gain)
product_fits (pos a) gain g low high =
    let most : a * gain ≤ 32767 * 65536 = mul-le a gain 32767 65536 (omega (arith, ints)) g in omega (arith, ints)
product_fits (negsuc a) gain g low high =
    let most : suc a * gain ≤ 32768 * 65536 = mul-le (suc a) gain 32768 65536 (omega (arith, ints)) g in
    omega (arith, ints)

pub overflow_mul-result : goal.overflow_mul-result
overflow_mul-result c =
    subst (λ (value : ℤ). FitsSigned w32 (value *ℤ to_z w32 c.args.gain))
    (sym (to_z-of_z w32 c.args.value c.ranges.value))
    (subst (λ (gain : ℤ). FitsSigned w32 (c.args.value *ℤ gain)) (sym (to_z_pos w32 c.args.gain (omega arith)))
    (product_fits c.args.value c.args.gain c.requires.gain c.requires.value_low c.requires.value_high))
