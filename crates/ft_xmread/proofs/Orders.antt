-- The orders of a song, from an order table of any length.
use Rattle.std.proofs.Common.{◌≡◌, ℕ, zero, suc, ◌+◌, ◌-◌, ◌≤◌, List, [], ◌∷◌, ◌++◌, length, take, replicate, min, refl, sym, ap, ◌∙◌, arith}
use Rattle.std.proofs.lemmas.List.{take-replicate, take_all, take_min, take-take, length-take}

padded : (table : List ℕ) (count more : ℕ) → count ≤ length table + more
    → take count (table ++ replicate more 0) ≡ take count table ++ replicate (count - length table) 0
padded [] count more le =
    let n : count - length {A = ℕ} [] ≡ count = omega arith in
    rw (take_all {A = ℕ} count [] (omega arith), n) (take-replicate count more 0 (omega (arith, le)))
padded (x ∷ table) zero more le = let n : 0 - length (x ∷ table) ≡ 0 = omega arith in rw n refl
padded (x ∷ table) (suc count) more le =
    let n : suc count - length (x ∷ table) ≡ count - length table = omega arith in
    rw n (ap (λ (l : List ℕ). x ∷ l) (padded table count more (omega (arith, le))))

-- what a table holds, and then zeros
pub orders_are : (table first orders : List ℕ) (count : ℕ) → count ≤ 256 → first ≡ take (min count (length table)) table
    → orders ≡ take count first ++ replicate (count - length first) 0
    → orders ≡ take count (table ++ replicate 256 0)
orders_are table first orders count le e f =
    let whole = e ∙ take_min count table in
    let n : count - length (take count table) ≡ count - length table = omega (arith, length-take count table) in
    f ∙ ap (λ (l : List ℕ). take count l ++ replicate (count - length l) 0) whole
    ∙ ap (λ (k : ℕ). take count (take count table) ++ replicate k 0) n
    ∙ ap (λ (l : List ℕ). l ++ replicate (count - length table) 0) (take-take count count table (omega arith))
    ∙ sym (padded table count 256 (omega (arith, le)))
