-- Words for changes of a list.
use Rattle.std.specs.Prelude.{ℕ, zero, suc, ◌+◌, ◌-◌, List, [], ◌∷◌, ◌++◌, length, take, drop}

-- the element at a place changed; past the end there is none, and the list stays
abbrev pub changed_at : {X : Type 0} → ℕ → (X → X) → List X → List X
changed_at place change [] = []
changed_at zero change (x ∷ xs) = change x ∷ xs
changed_at (suc place) change (x ∷ xs) = x ∷ changed_at place change xs

-- each element changed by its place, counted from this one
abbrev pub each_from : {X : Type 0} → (ℕ → X → X) → ℕ → List X → List X
each_from change place [] = []
each_from change place (x ∷ xs) = change place x ∷ each_from change (place + 1) xs

-- the elements from a place up to another, as a list
abbrev pub stretch_of : {X : Type 0} → ℕ → ℕ → List X → List X
stretch_of from to xs = take (to - from) (drop from xs)

-- that stretch changed as a whole, and all others kept
abbrev pub with_stretch : {X : Type 0} → ℕ → ℕ → (List X → List X) → List X → List X
with_stretch from to change xs = take from xs ++ (change (stretch_of from to xs) ++ drop to xs)

-- all but the last
abbrev pub without_last : {X : Type 0} → List X → List X
without_last xs = take (length xs - 1) xs
