-- What tests say of numbers.
use Rattle.std.proofs.Common.{◌≡◌, ℕ, ◌≤◌, Bool, true, false, refl, arith}
use Rattle.std.specs.Prelude.{nat_eq, ◌&&◌, min}
use Rattle.std.proofs.lemmas.Bool.Decides.{nat_tests}

pub and_split : (a b : Bool) → (a && b) ≡ true → (a ≡ true) × (b ≡ true)
and_split true b e = (refl, e)
and_split false b e = absurd cc

pub eq_is : (a b : ℕ) → nat_eq a b ≡ true → a ≡ b
eq_is a b e = grind (arith, nat_tests)

pub least : (a b : ℕ) → b ≤ a → min a b ≡ b
least a b le = omega (arith, le)
