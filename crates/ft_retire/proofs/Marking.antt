-- Laws of marks.
use Rattle.std.proofs.Common.{◌≡◌, ◌<◌, ◌≤◌, ◌+◌, ℕ, zero, suc, Bool, true, false, not, List, [], ◌∷◌, length, replicate, get_or, set, refl, arith}
use Rattle.std.specs.Int.{from_bool}
use Rattle.ft_retire.specs.Marks.{unmarked_in, AreMarked}

-- a mark that is set counts where there was none
pub one_marked : (marks : List Bool) (s : ℕ) (d : Bool) → s < length marks
    → unmarked_in (set marks s true) + from_bool (not (get_or marks s d)) ≡ unmarked_in marks
one_marked [] s d lt = absurd (omega arith)
one_marked (true ∷ marks) zero d lt = omega arith
one_marked (false ∷ marks) zero d lt = refl
one_marked (true ∷ marks) (suc s) d lt = one_marked marks s d (omega arith)
one_marked (false ∷ marks) (suc s) d lt =
    let rest = one_marked marks s d (omega arith) in omega arith

-- where all are marked none is unmarked
pub all_marked : (marks : List Bool) (n : ℕ) → length marks ≤ n → AreMarked n marks
    → unmarked_in marks ≡ 0
all_marked [] n le all = refl
all_marked (false ∷ marks) n le all = absurd (let e = all 0 (omega arith) in cc)
all_marked (true ∷ marks) zero le all = absurd (omega arith)
all_marked (true ∷ marks) (suc n) le all =
    all_marked marks n (omega arith) (λ s lt. all (suc s) (omega arith))

-- one that has no mark counts
pub some_unmarked : (marks : List Bool) (s : ℕ) → get_or marks s true ≡ false
    → 1 ≤ unmarked_in marks
some_unmarked [] s e = absurd cc
some_unmarked (true ∷ marks) zero e = absurd cc
some_unmarked (false ∷ marks) zero e = omega arith
some_unmarked (true ∷ marks) (suc s) e = some_unmarked marks s e
some_unmarked (false ∷ marks) (suc s) e = omega arith

-- where none is unmarked all are marked
pub none_unmarked : (marks : List Bool) (s : ℕ) → unmarked_in marks ≡ 0
    → get_or marks s true ≡ true
none_unmarked [] s e = refl
none_unmarked (true ∷ marks) zero e = refl
none_unmarked (true ∷ marks) (suc s) e = none_unmarked marks s e
none_unmarked (false ∷ marks) s e = absurd (omega arith)

-- what stays marked where a mark is set
pub stays_marked : (marks : List Bool) (s k : ℕ) → get_or marks k true ≡ true
    → get_or (set marks s true) k true ≡ true
stays_marked [] s k e = refl
stays_marked (mark ∷ marks) zero zero e = refl
stays_marked (mark ∷ marks) zero (suc k) e = e
stays_marked (mark ∷ marks) (suc s) zero e = e
stays_marked (mark ∷ marks) (suc s) (suc k) e = stays_marked marks s k e

-- none of a list of no marks is marked
pub no_marks : (n : ℕ) → unmarked_in (replicate n false) ≡ n
no_marks zero = refl
no_marks (suc n) = let rest = no_marks n in omega arith
