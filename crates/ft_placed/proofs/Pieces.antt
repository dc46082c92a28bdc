-- Bodies in pieces of 1,024, one piece after the other.
use Rattle.std.proofs.Common.{◌≡◌, ℕ, zero, suc, ◌+◌, ◌-◌, ◌*◌, ◌/◌, ◌%◌, ◌<◌, List, Some, min, length, ap, ◌∙◌, arith, inl, inr}
use Rattle.std.specs.List.{flat_map, range_with_len, slice_get}
use Rattle.std.proofs.lemmas.Bool.{cases_lt}
use Rattle.std.proofs.lemmas.List.{length-append}
use Rattle.ft_segments.specs.Walk.{each_below, bodies_of_index}
use Rattle.ft_placed.proofs.Lists.{below_at, length_below, in_first, in_second}

-- of that many bodies, those of n pieces from one on
abbrev pub pieces : (ℕ → ℕ → ℕ) → ℕ → ℕ → ℕ → List ℕ
pieces f bodies from n = flat_map (λ k. each_below (bodies_of_index bodies k) (f k)) (range_with_len from n)

pub length_pieces : (f : ℕ → ℕ → ℕ) (bodies from n : ℕ) → length (pieces f bodies from n) ≡ min (bodies - 1024 * from) (1024 * n)
length_pieces f bodies from zero = omega arith
length_pieces f bodies from (suc n) =
    let one = each_below (bodies_of_index bodies from) (f from) in
    let rest = length_pieces f bodies (from + 1) n in
    let here = length_below (bodies_of_index bodies from) (f from) in
    let both = length-append one (pieces f bodies (from + 1) n) in
    omega (arith, rest, here, both)

pub in_pieces : (f : ℕ → ℕ → ℕ) (bodies from n b : ℕ) → 1024 * from + b < bodies → b < 1024 * n
    → slice_get (pieces f bodies from n) b ≡ Some (f (from + b / 1024) (b % 1024))
in_pieces f bodies from zero b there lt = absurd (omega (arith, lt))
in_pieces f bodies from (suc n) b there lt =
    let count = bodies_of_index bodies from in
    let one = each_below count (f from) in
    let rest = pieces f bodies (from + 1) n in
    let here = length_below count (f from) in
    elim (cases_lt b 1024) [
      | inl low ↦
          let within : b < count = omega (arith, low, there) in
          let first : from ≡ from + b / 1024 = omega (arith, low) in
          let place : b ≡ b % 1024 = omega (arith, low) in
          in_first one rest b (omega (arith, here, within))
          ∙ below_at count (f from) b within
          ∙ ap (λ (k : ℕ). Some (f k b)) first
          ∙ ap (λ (j : ℕ). Some (f (from + b / 1024) j)) place
      | inr high ↦
          let full : b ≡ length one + (b - 1024) = omega (arith, here, high, there) in
          let next : from + 1 + (b - 1024) / 1024 ≡ from + b / 1024 = omega (arith, high) in
          let place : (b - 1024) % 1024 ≡ b % 1024 = omega (arith, high) in
          in_second one rest (b - 1024) b full
          ∙ in_pieces f bodies (from + 1) n (b - 1024) (omega (arith, there, high)) (omega (arith, lt, high))
          ∙ ap (λ (k : ℕ). Some (f k ((b - 1024) % 1024))) next
          ∙ ap (λ (j : ℕ). Some (f (from + b / 1024) j)) place
    ]
