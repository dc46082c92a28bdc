-- Orders past the song.
use Rattle.std.proofs.Common.{◌≡◌, ℕ, zero, suc, List, [], ◌∷◌, None, get_or, refl}
use Rattle.std.specs.Prelude.{slice_get}

-- past the orders is pattern 0
pub past_orders : (orders : List ℕ) (position : ℕ) → None ≡ slice_get orders position → 0 ≡ get_or orders position 0
past_orders [] position e = refl
past_orders (order ∷ orders) zero e = absurd cc
past_orders (order ∷ orders) (suc position) e = past_orders orders position e
