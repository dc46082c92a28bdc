-- Numbers of edits, by their place.
use Rattle.std.proofs.Common.{◌≡◌, ◌≤◌, length, arith, ℕ, zero, suc, List, [], ◌∷◌, get_or, refl, ℤ, pos}
use Rattle.ft_types.specs.Signatures.{at}

pub at_is : (ns : List ℤ) (i : ℕ) → at ns i ≡ get_or ns i (pos 0)
at_is [] zero = refl
at_is [] (suc i) = at_is [] i
at_is (n ∷ ns) zero = refl
at_is (n ∷ ns) (suc i) = at_is ns i

pub at_past : (ns : List ℤ) (i : ℕ) → length ns ≤ i → at ns i ≡ pos 0
at_past [] zero h = refl
at_past [] (suc i) h = at_past [] i (omega arith)
at_past (n ∷ ns) zero h = absurd (omega (arith, h))
at_past (n ∷ ns) (suc i) h = at_past ns i (omega (arith, h))
