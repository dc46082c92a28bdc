-- Marks that are added in steps.
use Rattle.std.proofs.Common.{◌≡◌, ◌≢◌, ◌↔◌, ◌⊎◌, inl, inr, ◌<◌, ◌+◌, ℕ, true, Bool, List, length, get_or, set, refl, sym, ap, ◌∙◌, ⊎_elim, arith}
use mathlib.Core.Logic.{dite}
use native.Mathlib.Decide.{ℕ_discrete}
use Rattle.std.proofs.lemmas.List.{get_or-set_same, get_or-set_other, length-set}
use Rattle.ft_retire.specs.Births.{BirthsState}
use Rattle.ft_desk.specs.Survey.{HasMarked}

-- nothing was marked, and nothing was named
pub marked_nothing : (births : BirthsState) (names : ℕ → Type 0) → ((s : ℕ) → s < length births.marks → names s → ⊥)
    → HasMarked births births names
marked_nothing births names none = record {
  lives = refl;
  looked = refl;
  many = refl;
  marked = λ s lt. ((λ m. inl m), (λ either. ⊎_elim (λ m. m) (λ n. absurd (none s lt n)) either));
}

pub marked_through : (one next last : BirthsState) (some more all : ℕ → Type 0) → HasMarked one next some → HasMarked next last more
    → ((s : ℕ) → all s ↔ (some s ⊎ more s)) → HasMarked one last all
marked_through one next last some more all e f both = record {
  lives = f.lives ∙ e.lives;
  looked = f.looked ∙ e.looked;
  many = f.many ∙ e.many;
  marked = λ s lt.
      let first = e.marked s lt in
      let second = f.marked s (let long = e.many in omega arith) in (
        (λ m. ⊎_elim (λ n. ⊎_elim (λ o. inl o) (λ p. inr ((both s).1 (inl p))) (first.0 n)) (λ q. inr ((both s).1 (inr q))) (second.0 m)),
        (λ either. second.1 (⊎_elim (λ o. inl (first.1 (inl o)))
            (λ a. ⊎_elim (λ p. inl (first.1 (inr p))) (λ q. inr q) ((both s).0 a)) either)),
      );
}

-- one segment was marked
pub marked_one : (old new : BirthsState) (segment : ℕ) → segment < length old.marks → new.lives ≡ old.lives → new.looked ≡ old.looked
    → new.marks ≡ set old.marks segment true → HasMarked old new (λ named. segment ≡ named)
marked_one old new segment inside lives looked is = record {
  lives = lives;
  looked = looked;
  many = ap (λ (m : List Bool). length m) is ∙ length-set old.marks segment true;
  marked = λ s lt. dite (ℕ_discrete s segment)
      (λ (e : s ≡ segment). (
        (λ m. inr (sym e)),
        (λ either. ap (λ (m : List Bool). get_or m s true) is
            ∙ ap (λ (k : ℕ). get_or (set old.marks segment true) k true) e ∙ get_or-set_same old.marks segment true true inside),
      ))
      (λ (n : s ≢ segment).
      let same : get_or new.marks s true ≡ get_or old.marks s true
      = ap (λ (m : List Bool). get_or m s true) is ∙ get_or-set_other old.marks segment s true true n in (
        (λ m. inl (sym same ∙ m)),
        (λ either. same ∙ ⊎_elim (λ o. o) (λ e. absurd (n (sym e))) either),
      ));
}

abbrev pub IsFirst : ℕ → (ℕ → ℕ) → ℕ → Type 0
IsFirst count id named = (i : ℕ) × (i < count) × (id i ≡ named)

-- one id more
pub one_more : (count : ℕ) (id : ℕ → ℕ) (named : ℕ) → IsFirst (count + 1) id named ↔ (IsFirst count id named ⊎ (id count ≡ named))
one_more count id named = (
  (λ n. dite (ℕ_discrete n.0 count)
      (λ (e : n.0 ≡ count). inr (ap id (sym e) ∙ n.2))
      (λ (ne : n.0 ≢ count). let lt = n.1 in inl (n.0, omega arith, n.2))),
  (λ either. ⊎_elim (λ n. let lt = n.1 in (n.0, omega arith, n.2)) (λ e. (count, omega arith, e)) either),
)

-- what was named is said in other words
pub marked_as : (old new : BirthsState) (some other : ℕ → Type 0) → HasMarked old new some → ((s : ℕ) → other s ↔ some s)
    → HasMarked old new other
marked_as old new some other e same = record {
  lives = e.lives;
  looked = e.looked;
  many = e.many;
  marked = λ s lt.
      let here = e.marked s lt in (
        (λ m. ⊎_elim (λ o. inl o) (λ p. inr ((same s).1 p)) (here.0 m)),
        (λ either. here.1 (⊎_elim (λ o. inl o) (λ p. inr ((same s).0 p)) either)),
      );
}
