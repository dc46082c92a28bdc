-- How far a quotient that rounds down lies below.
use Rattle.std.proofs.Common.{ℕ, ◌<◌, ℤ, pos, negsuc, ◌+ℤ◌, ◌*ℤ◌, arith}
use Rattle.std.specs.Prelude.{◌≤ℤ◌, ◌<ℤ◌}
use Rattle.std.proofs.lemmas.Int.{ints}
use Rattle.std.proofs.lemmas.Nat.{div-add-mod', mod_below}
use Rattle.ft_tables.specs.Pitch.{floor_div}

pub floor_low : (z : ℤ) (n : ℕ) → 0 < n → (floor_div z n *ℤ pos n) ≤ℤ z
floor_low (pos a) n lt = omega (arith, ints, div-add-mod' a n)
floor_low (negsuc a) n lt = omega (arith, ints, div-add-mod' a n, mod_below a n lt)

pub floor_high : (z : ℤ) (n : ℕ) → 0 < n → z <ℤ ((floor_div z n *ℤ pos n) +ℤ pos n)
floor_high (pos a) n lt = omega (arith, ints, div-add-mod' a n, mod_below a n lt)
floor_high (negsuc a) n lt = omega (arith, ints, div-add-mod' a n, mod_below a n lt)
