-- Parts of lists.
use Rattle.std.proofs.Common.{◌≡◌, ℕ, zero, suc, ◌-◌, ◌≤◌, List, [], ◌∷◌, ◌++◌, length, take, replicate, ap, sym, ◌∙◌, arith}
use Rattle.std.proofs.lemmas.List.{take-replicate}

filled_in : {X : Type 0} (count n : ℕ) (xs : List X) (x : X) → count ≤ n
    → take count xs ++ replicate (count - length xs) x ≡ take count (xs ++ replicate n x)
filled_in zero n xs x few = let e : 0 - length xs ≡ 0 = omega arith in ap (λ k. replicate k x) e
filled_in (suc count) n [] x few =
    let e : suc count - 0 ≡ suc count = omega arith in
    ap (λ k. replicate k x) e ∙ sym (take-replicate (suc count) n x few)
filled_in (suc count) n (y ∷ xs) x few =
    let e : suc count - suc (length xs) ≡ count - length xs = omega arith in
    ap (λ k. y ∷ (take count xs ++ replicate k x)) e ∙ ap (λ zs. y ∷ zs) (filled_in count n xs x (omega (arith, few)))

-- cut, or filled
pub filled : {X : Type 0} (count : ℕ) (xs : List X) (x : X)
    → take count xs ++ replicate (count - length xs) x ≡ take count (xs ++ replicate count x)
filled count xs x = filled_in count count xs x (omega arith)
