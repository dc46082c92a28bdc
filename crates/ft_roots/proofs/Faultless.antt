-- What is known of orders and patterns where an edit isn't refused.
use Rattle.std.proofs.Common.{◌≡◌, ℕ, ◌+◌, ◌<◌, ◌≤◌, Bool, true, false, List, [], ◌∷◌, Option, None, refl, arith}
use Rattle.std.specs.Prelude.{nat_lt, nat_le, length}
use Rattle.std.proofs.lemmas.Bool.Decides.{nat_tests}
use Rattle.ft_types.specs.declared.module.Module.{Module}
use Rattle.ft_types.specs.declared.edit.Edit.TheVariants as edits
use Rattle.ft_types.specs.declared.edit_fault.EditFault.{EditFault}
use Rattle.ft_edits.specs.Faults.{unless, first_cause, fault_of}

passed : (test : Bool) (fault : EditFault) (causes : List (Option EditFault))
    → first_cause (unless test fault ∷ causes) ≡ None → (test ≡ true) × (first_cause causes ≡ None)
passed true fault causes none = (refl, none)
passed false fault causes none = absurd cc

low : (a b : ℕ) → nat_lt a b ≡ true → a < b
low a b holds = grind (arith, nat_tests)

most : (a b : ℕ) → nat_le a b ≡ true → a ≤ b
most a b holds = grind (arith, nat_tests)

pub order_there : (m : Module) (pos p : ℕ) → fault_of m (edits.Order pos p) ≡ None → pos < length m.orders
order_there m pos p none = low pos (length m.orders) (passed (nat_lt pos (length m.orders)) _ [] none).0

pub room_for_order : (m : Module) (pos p : ℕ) → fault_of m (edits.Insorder pos p) ≡ None → length m.orders < 256
room_for_order m pos p none =
    let a = passed (nat_lt pos (length m.orders + 1)) _ _ none in
    let b = passed (nat_le (length m.orders + 1) 256) _ [] a.1 in
    let c = most (length m.orders + 1) 256 b.0 in
    omega (arith, c)

pub pattern_there : (m : Module) → fault_of m edits.Delpat ≡ None → 0 < length m.patterns
pattern_there m none = low 0 (length m.patterns) (passed (nat_lt 0 (length m.patterns)) _ [] none).0
