-- Parts of lists.
use Rattle.std.proofs.Common.{◌≡◌, ℕ, zero, suc, ◌+◌, ◌-◌, ◌≤◌, List, [], ◌∷◌, ◌++◌, length, take, drop, replicate, ap, sym, ◌∙◌, arith}
use Rattle.std.proofs.lemmas.List.{append-nil, drop_all, take_all, take_rest, take-replicate, length-replicate, length-take, length-drop}
use Rattle.std.proofs.Math.Seq.{take-append_seam}
use borrow.Rule.Slice.PartMut.{put_mid, mid_of}

take-both : {X : Type 0} (n : ℕ) (xs ys : List X) → take n (xs ++ ys) ≡ take n xs ++ take (n - length xs) ys
take-both n [] ys =
    let e : n - 0 ≡ n = omega arith in
    ap (λ k. take k ys) (sym e) ∙ sym (ap (λ zs. zs ++ take (n - 0) ys) (take_all n [] (omega arith)))
take-both zero (x ∷ xs) ys = let e : 0 - suc (length xs) ≡ 0 = omega arith in sym (ap (λ k. take k ys) e)
take-both (suc n) (x ∷ xs) ys =
    let e : suc n - suc (length xs) ≡ n - length xs = omega arith in
    ap (λ zs. x ∷ zs) (take-both n xs ys) ∙ sym (ap (λ k. x ∷ (take n xs ++ take k ys)) e)

-- a row put in at a place, where the last one drops out
pub row_in : {X : Type 0} (at n : ℕ) (cells row rest : List X) → length row ≡ n → at + n ≤ length cells
    → rest ≡ row ++ take (length (mid_of at (length cells - at) cells) - n) (mid_of at (length cells - at) cells)
    → put_mid at (length cells - at) cells rest ≡ take (length cells) (take at cells ++ (row ++ drop at cells))
row_in {X = X} at n cells row rest size within is =
    let front : List X = take at cells in
    let back : List X = drop at cells in
    let long = length-drop at cells in
    let wide = length-take at cells in
    let mid : mid_of at (length cells - at) cells ≡ back = take_rest cells at in
    let end : drop (length cells - at) back ≡ [] = drop_all (length cells - at) back (omega (arith, long)) in
    let count : length back - n ≡ length cells - length front - length row = omega (arith, long, wide, size, within) in
    let whole : take (length cells) front ≡ front = take_all (length cells) front (omega (arith, wide)) in
    let kept : take (length cells - length front) row ≡ row =
    take_all (length cells - length front) row (omega (arith, wide, size, within)) in
    ap (λ zs. front ++ (rest ++ zs)) end ∙ ap (λ zs. front ++ zs) (append-nil rest ∙ is
    ∙ ap (λ zs. row ++ take (length zs - n) zs) mid ∙ ap (λ k. row ++ take k back) count)
    ∙ sym (take-both (length cells) front (row ++ back)
    ∙ ap (λ zs. zs ++ take (length cells - length front) (row ++ back)) whole
    ∙ ap (λ zs. front ++ zs) (take-both (length cells - length front) row back
    ∙ ap (λ zs. zs ++ take (length cells - length front - length row) back) kept))

-- empty ones behind the first few
pub filled_up : {X : Type 0} (count wanted : ℕ) (xs ys : List X) (x : X) → count ≤ wanted → wanted ≤ length xs
    → ys ≡ replicate (wanted - count) x
    → take wanted (put_mid count (wanted - count) xs ys) ≡ take wanted (take count xs ++ replicate wanted x)
filled_up {X = X} count wanted xs ys x more room are =
    let front : List X = take count xs in
    let rest : List X = drop (wanted - count) (drop count xs) in
    let size : length front ≡ count = length-take count xs ∙ omega (arith, more, room) in
    let long : length ys ≡ wanted - count = ap length are ∙ length-replicate {A = X} (wanted - count) x in
    let kept : take (wanted - count) (ys ++ rest) ≡ replicate (wanted - count) x =
    ap (λ n. take n (ys ++ rest)) (sym long) ∙ take-append_seam ys rest ∙ are in
    take-both wanted front (ys ++ rest)
    ∙ ap (λ n. take wanted front ++ take (wanted - n) (ys ++ rest)) size
    ∙ ap (λ zs. take wanted front ++ zs) (kept ∙ sym (take-replicate (wanted - count) wanted x (omega arith)))
    ∙ ap (λ n. take wanted front ++ take (wanted - n) (replicate wanted x)) (sym size)
    ∙ sym (take-both wanted front (replicate wanted x))
