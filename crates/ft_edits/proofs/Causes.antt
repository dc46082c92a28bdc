-- What is known where no cause of a list was met.
use Rattle.std.proofs.Common.{◌≡◌, ℕ, ◌<◌, ◌≤◌, Bool, true, false, List, [], ◌∷◌, ◌++◌, Option, None, Some, refl, arith}
use Rattle.std.specs.Prelude.{◌&&◌, nat_lt, nat_le}
use Rattle.std.proofs.lemmas.Bool.Decides.{nat_tests}
use Rattle.ft_types.specs.declared.edit_fault.EditFault.{EditFault}
use Rattle.ft_edits.specs.Faults.{unless, first_cause, out_of_range}

-- the first cause didn't come, and nor did the others
pub passed : (test : Bool) (fault : EditFault) (causes : List (Option EditFault))
    → first_cause (unless test fault ∷ causes) ≡ None → (test ≡ true) × (first_cause causes ≡ None)
passed true fault causes none = (refl, none)
passed false fault causes none = absurd cc

pub passed_all : (first more : List (Option EditFault))
    → first_cause (first ++ more) ≡ None → (first_cause first ≡ None) × (first_cause more ≡ None)
passed_all [] more none = (refl, none)
passed_all (None ∷ causes) more none = passed_all causes more none
passed_all (Some fault ∷ causes) more none = absurd cc

pub both : (a b : Bool) → (a && b) ≡ true → (a ≡ true) × (b ≡ true)
both true b holds = (refl, holds)
both false b holds = absurd cc

pub low : (a b : ℕ) → nat_lt a b ≡ true → a < b
low a b holds = grind (arith, nat_tests)

pub most : (a b : ℕ) → nat_le a b ≡ true → a ≤ b
most a b holds = grind (arith, nat_tests)

pub ranged : (field from to found : ℕ) (causes : List (Option EditFault))
    → first_cause (out_of_range field from to found ∷ causes) ≡ None → (from ≤ found) × (found ≤ to) × (first_cause causes ≡ None)
ranged field from to found causes none =
    let p = passed _ _ causes none in
    let b = both _ _ p.0 in
    (most from found b.0, most found to b.1, p.1)
