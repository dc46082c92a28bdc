-- A part of a step goes no further than the step.
use Rattle.std.proofs.Common.{ℕ, suc, ◌<◌, ◌≤◌, ◌*◌, ◌^◌, ℤ, pos, negsuc, ◌+ℤ◌, ◌*ℤ◌, arith}
use Rattle.std.specs.Prelude.{◌≤ℤ◌, ◌<ℤ◌, FitsSigned}
use Rattle.std.proofs.lemmas.Int.{ints, by_lt_z}
use Rattle.std.specs.Int.{w16}
use Rattle.std.proofs.Math.Nat.{mul-le-mul_left}
use Rattle.ft_tables.specs.Pitch.{floor_div}
use Rattle.ft_replay.specs.Sound.{part}
use Rattle.ft_mix.proofs.Floor.{floor_low, floor_high}

times : (a q : ℕ) → q < 2 ^ 32 → a * q ≤ a * 2 ^ 32
times a q lt = mul-le-mul_left a (omega arith)

-- between 0 and the step, on either side
pub record Goes (step r : ℤ) : Type 0 where
  pub up : pos 0 ≤ℤ step → (pos 0 ≤ℤ r) × (r ≤ℤ step)
  pub down : step ≤ℤ pos 0 → (step ≤ℤ r) × (r ≤ℤ pos 0)

goes : (step r : ℤ) (q : ℕ) → q < 2 ^ 32 → (r *ℤ pos (2 ^ 32)) ≤ℤ (step *ℤ pos q)
    → (step *ℤ pos q) <ℤ ((r *ℤ pos (2 ^ 32)) +ℤ pos (2 ^ 32)) → Goes step r
goes (pos a) r q lt low high = record {
  up = λ h. (omega (arith, ints, times a q lt), omega (arith, ints, times a q lt));
  down = λ h. (omega (arith, ints, times a q lt), omega (arith, ints, times a q lt));
}
goes (negsuc a) r q lt low high = record {
  up = λ h. absurd (omega (arith, ints));
  down = λ h. (omega (arith, ints, times (suc a) q lt), omega (arith, ints, times (suc a) q lt));
}

pub part_goes : (step : ℤ) (q : ℕ) → q < 2 ^ 32 → Goes step (part step q)
unfolding part
part_goes step q lt =
    let z = step *ℤ pos q in
    goes step (floor_div z (2 ^ 32)) q lt (floor_low z (2 ^ 32) (omega arith)) (floor_high z (2 ^ 32) (omega arith))

-- the line from one value of 16 bits to another has values of 16 bits
pub rise_fits : (first rise r : ℤ) → FitsSigned w16 first → FitsSigned w16 (first +ℤ rise) → Goes rise r
    → FitsSigned w16 (first +ℤ r)
rise_fits first rise r f s goes =
    by_lt_z rise (pos 0)
    (λ lt. let less : rise ≤ℤ pos 0 = omega (arith, ints) in let g = goes.down less in omega (arith, ints))
    (λ le. let more : pos 0 ≤ℤ rise = omega (arith, ints) in let g = goes.up more in omega (arith, ints))
