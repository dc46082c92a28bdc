-- What holds of each part of a list of parts, and how often the list has a segment.
use Rattle.std.proofs.Common.{◌≡◌, ℕ, suc, ◌+◌, ◌≤◌, Bool, true, false, cond, eqb, List, [], ◌∷◌, ◌++◌, Some, IsSome, refl, subst, arith}
use Rattle.std.specs.List.{slice_get, sum_by}
use Rattle.std.proofs.lemmas.List.Sums.{sum_by-cons}
use Rattle.std.proofs.lemmas.Bool.{eqb-true}
use Rattle.std.proofs.lemmas.Option.{none-some, same_Some}
use Rattle.ft_segments.specs.Walk.{is_it}
use Rattle.ft_desk.specs.Parts.{Part, PlacedPart, numbered, part_in}

-- ---- what holds of each

abbrev pub Each : (PlacedPart → Type 0) → List PlacedPart → Type 0
Each P [] = Unit {0}
Each P (x ∷ xs) = P x × Each P xs

pub each_of_both : (P : PlacedPart → Type 0) (xs ys : List PlacedPart) → Each P xs → Each P ys → Each P (xs ++ ys)
each_of_both P [] ys a b = b
each_of_both P (x ∷ xs) ys a b = (a.0, each_of_both P xs ys a.1 b)

pub each_numbered : {A : Type 0} → (P : PlacedPart → Type 0) (parts : ℕ → A → List PlacedPart) (n : ℕ) (xs : List A)
    → ((k m : ℕ) (x : A) → slice_get xs k ≡ Some x → m ≡ n + k → Each P (parts m x)) → Each P (numbered parts n xs)
each_numbered P parts n [] each = tt
each_numbered P parts n (x ∷ xs) each =
    each_of_both P (parts n x) (numbered parts (n + 1) xs) (each 0 n x refl (omega arith))
    (each_numbered P parts (n + 1) xs (λ k m y is at. each (suc k) m y is (omega arith)))

-- ---- the part that is found

-- what holds of each holds of the part that is found for a segment
pub found_is : (P : PlacedPart → Type 0) (xs : List PlacedPart) (segment : ℕ) (part : Part)
    → Each P xs → part_in xs segment ≡ Some part → P (record { segment = segment; part = part })
found_is P [] segment part each is = absurd (none-some part is)
found_is P (x ∷ xs) segment part each is =
    at (eqb x.segment segment) refl is (λ f. found_is P xs segment part each.1 f)
  where
    at : (b : Bool) → eqb x.segment segment ≡ b → cond b (Some x.part) (part_in xs segment) ≡ Some part
        → (part_in xs segment ≡ Some part → P (record { segment = segment; part = part })) → P (record { segment = segment; part = part })
    at true e f rest =
        let s : x.segment ≡ segment = eqb-true x.segment segment e in
        let p : x.part ≡ part = same_Some x.part part f in
        subst (λ (s : ℕ). P (record { segment = s; part = part })) s (subst (λ (p : Part). P (record { segment = x.segment; part = p })) p each.0)
    at false e f rest = rest f

-- ---- how often a segment is named

abbrev pub times : ℕ → List PlacedPart → ℕ
times segment [] = 0
times segment (x ∷ xs) = is_it segment x.segment + times segment xs

pub times_of_both : (segment : ℕ) (xs ys : List PlacedPart) → times segment (xs ++ ys) ≡ times segment xs + times segment ys
times_of_both segment [] ys = omega arith
times_of_both segment (x ∷ xs) ys = let e = times_of_both segment xs ys in omega arith

pub times_numbered : {A : Type 0} → (segment : ℕ) (parts : ℕ → A → List PlacedPart) (f : A → ℕ) (n : ℕ) (xs : List A)
    → ((m : ℕ) (x : A) → times segment (parts m x) ≡ f x) → times segment (numbered parts n xs) ≡ sum_by f xs
times_numbered segment parts f n [] each = refl
times_numbered segment parts f n (x ∷ xs) each =
    let a = times_of_both segment (parts n x) (numbered parts (n + 1) xs) in
    let b = each n x in
    let c = times_numbered segment parts f (n + 1) xs each in
    let d = sum_by-cons f x xs in
    omega arith

-- a segment is found exactly where it is named
pub named_is_found : (xs : List PlacedPart) (segment : ℕ) → 1 ≤ times segment xs → IsSome (part_in xs segment)
named_is_found [] segment one = absurd (omega arith)
named_is_found (x ∷ xs) segment one = at (eqb x.segment segment) one (λ e. named_is_found xs segment e)
  where
    at : (b : Bool) → 1 ≤ cond b 1 0 + times segment xs → (1 ≤ times segment xs → IsSome (part_in xs segment))
        → IsSome (cond b (Some x.part) (part_in xs segment))
    at true e rest = refl
    at false e rest = rest (omega arith)

pub found_is_named : (xs : List PlacedPart) (segment : ℕ) → IsSome (part_in xs segment) → 1 ≤ times segment xs
found_is_named [] segment some = let no : ⊥ = cc in absurd no
found_is_named (x ∷ xs) segment some = at (eqb x.segment segment) some (λ e. found_is_named xs segment e)
  where
    at : (b : Bool) → IsSome (cond b (Some x.part) (part_in xs segment)) → (IsSome (part_in xs segment) → 1 ≤ times segment xs)
        → 1 ≤ cond b 1 0 + times segment xs
    at true e rest = omega arith
    at false e rest = let r = rest e in omega arith
