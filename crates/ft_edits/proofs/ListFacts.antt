-- What changes of lists keep.
use Rattle.std.proofs.Common.{◌≡◌, ℕ, zero, suc, ◌+◌, ◌-◌, List, [], ◌∷◌, ◌++◌, Some, length, take, drop, All, refl, ap}
use Rattle.std.specs.Prelude.{slice_get}
use Rattle.std.proofs.lemmas.List.Elements.{All-cons, All-head, All-tail, All-take, All-drop, All-append}
use Rattle.ft_edits.specs.Lists.{changed_at, each_from, stretch_of, with_stretch}

pub length-changed : {X : Type 0} (change : X → X) (place : ℕ) (xs : List X)
    → length (changed_at place change xs) ≡ length xs
length-changed change zero [] = refl
length-changed change (suc place) [] = refl
length-changed change zero (x ∷ xs) = refl
length-changed change (suc place) (x ∷ xs) = ap suc (length-changed change place xs)

-- the element that is changed may be known to be there
pub all-changed : {X : Type 0} (P : X → Type 0) (change : X → X) (place : ℕ) (xs : List X)
    → All P xs → ((x : X) → slice_get xs place ≡ Some x → P x → P (change x)) → All P (changed_at place change xs)
all-changed P change zero [] all keeps = all
all-changed P change (suc place) [] all keeps = all
all-changed P change zero (x ∷ xs) all keeps =
    All-cons P (change x) xs (keeps x refl (All-head P x xs all)) (All-tail P x xs all)
all-changed P change (suc place) (x ∷ xs) all keeps =
    All-cons P x (changed_at place change xs) (All-head P x xs all)
    (all-changed P change place xs (All-tail P x xs all) keeps)

pub length-each : {X : Type 0} (change : ℕ → X → X) (place : ℕ) (xs : List X)
    → length (each_from change place xs) ≡ length xs
length-each change place [] = refl
length-each change place (x ∷ xs) = ap suc (length-each change (place + 1) xs)

pub all-each : {X : Type 0} (P : X → Type 0) (change : ℕ → X → X) (place : ℕ) (xs : List X)
    → All P xs → ((k : ℕ) (x : X) → P x → P (change k x)) → All P (each_from change place xs)
all-each P change place [] all keeps = all
all-each P change place (x ∷ xs) all keeps =
    All-cons P (change place x) (each_from change (place + 1) xs) (keeps place x (All-head P x xs all))
    (all-each P change (place + 1) xs (All-tail P x xs all) keeps)

pub all-stretch : {X : Type 0} (P : X → Type 0) (change : List X → List X) (from to : ℕ) (xs : List X)
    → All P xs → ((ys : List X) → All P ys → All P (change ys)) → All P (with_stretch from to change xs)
all-stretch P change from to xs all keeps =
    All-append P (take from xs) (change (stretch_of from to xs) ++ drop to xs) (All-take P from xs all)
    (All-append P (change (stretch_of from to xs)) (drop to xs)
    (keeps (stretch_of from to xs) (All-take P (to - from) (drop from xs) (All-drop P from xs all)))
    (All-drop P to xs all))
