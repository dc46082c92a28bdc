-- Lists whose elements are each made the same by two functions.
use Rattle.std.proofs.Common.{◌≡◌, List, [], ◌∷◌, ◌++◌, map, All, refl, ap, ◌∙◌}
use Rattle.std.specs.List.{flat_map}
use Rattle.std.proofs.lemmas.List.Elements.{All-head, All-tail}

pub flat_map_same : {A B : Type 0} (f g : A → List B) (xs : List A) → All (λ x. f x ≡ g x) xs
    → flat_map f xs ≡ flat_map g xs
flat_map_same f g [] all = refl
flat_map_same {B = B} f g (x ∷ xs) all =
    ap (λ (l : List B). l ++ flat_map f xs) (All-head (λ x. f x ≡ g x) x xs all)
    ∙ ap (λ (l : List B). g x ++ l) (flat_map_same f g xs (All-tail (λ x. f x ≡ g x) x xs all))

-- a map of a map of elements that the two give back
pub map_back : {A B : Type 0} (f : B → A) (g : A → B) (xs : List A) → All (λ x. f (g x) ≡ x) xs → map f (map g xs) ≡ xs
map_back f g [] all = refl
map_back {A = A} f g (x ∷ xs) all =
    ap (λ (y : A). y ∷ map f (map g xs)) (All-head (λ x. f (g x) ≡ x) x xs all)
    ∙ ap (λ (l : List A). x ∷ l) (map_back f g xs (All-tail (λ x. f (g x) ≡ x) x xs all))

pub map_kept : {A : Type 0} (f : A → A) (xs : List A) → All (λ x. f x ≡ x) xs → map f xs ≡ xs
map_kept f [] all = refl
map_kept {A = A} f (x ∷ xs) all =
    ap (λ (y : A). y ∷ map f xs) (All-head (λ x. f x ≡ x) x xs all)
    ∙ ap (λ (l : List A). x ∷ l) (map_kept f xs (All-tail (λ x. f x ≡ x) x xs all))
