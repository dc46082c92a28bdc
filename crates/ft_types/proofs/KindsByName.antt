-- A kind is found among those whose names are as long as the name that is looked for.
use Rattle.std.proofs.Common.{◌≡◌, ◌≢◌, ◌≤◌, ℕ, zero, suc, arith, Bool, true, false, cond, List, [], ◌∷◌, length, Some, refl, sym, ap, ◌∙◌}
use Rattle.std.specs.Prelude.{bytes_eq}
use Rattle.std.proofs.lemmas.Bool.{false≢true}
use Rattle.std.proofs.lemmas.Slice.Eq.{bytes_eq-Decides}
use Rattle.ft_types.specs.declared.edit_kind.EditKind.{EditKind}
use Rattle.ft_types.specs.Signatures.{signature, kind_among, kind_named, every_kind}

abbrev same : ℕ → ℕ → Bool
same zero zero = true
same zero (suc b) = false
same (suc a) zero = false
same (suc a) (suc b) = same a b

same_itself : (n : ℕ) → same n n ≡ true
same_itself zero = refl
same_itself (suc n) = same_itself n

same_length : (xs ys : List ℕ) → xs ≡ ys → same (length ys) (length xs) ≡ true
same_length xs ys is = ap (λ zs. same (length ys) (length zs)) is ∙ same_itself (length ys)

-- those whose names have that many bytes
abbrev with_length : ℕ → List EditKind → List EditKind
with_length n [] = []
with_length n (k ∷ ks) = cond (same (length (signature k).name) n) (k ∷ with_length n ks) (with_length n ks)

not_true : (b : Bool) → b ≢ true → b ≡ false
not_true true differs = absurd (differs refl)
not_true false differs = refl

unequal : (xs ys : List ℕ) → same (length ys) (length xs) ≡ false → bytes_eq xs ys ≡ false
unequal xs ys differ = not_true (bytes_eq xs ys) (λ is.
    false≢true (sym differ ∙ same_length xs ys ((bytes_eq-Decides xs ys).0 is)))

one_more : (b : Bool) (k : EditKind) (ks : List EditKind) (name : List ℕ) → same (length (signature k).name) (length name) ≡ b
    → kind_among (with_length (length name) ks) name ≡ kind_among ks name
    → kind_among (cond b (k ∷ with_length (length name) ks) (with_length (length name) ks)) name ≡ kind_among (k ∷ ks) name
one_more true k ks name e others = ap (λ other. cond (bytes_eq name (signature k).name) (Some k) other) others
one_more false k ks name e others =
    others ∙ sym (ap (λ b. cond b (Some k) (kind_among ks name)) (unequal name (signature k).name e))

among_as_long : (ks : List EditKind) (name : List ℕ) → kind_among (with_length (length name) ks) name ≡ kind_among ks name
among_as_long [] name = refl
among_as_long (k ∷ ks) name =
    one_more (same (length (signature k).name) (length name)) k ks name refl (among_as_long ks name)

pub found : (n : ℕ) (name : List ℕ) → length name ≡ n → kind_among (with_length n every_kind) name ≡ kind_named name
unfolding kind_named
found n name is = ap (λ m. kind_among (with_length m every_kind) name) (sym is) ∙ among_as_long every_kind name

-- no name has fewer than 3 bytes or more than 9
no_others : (n : ℕ) → (3 ≤ n → 10 ≤ n) → with_length n every_kind ≡ []
no_others zero is = refl
no_others (suc zero) is = refl
no_others (suc (suc zero)) is = refl
no_others (suc (suc (suc zero))) is = absurd (omega (arith, is (omega arith)))
no_others (suc (suc (suc (suc zero)))) is = absurd (omega (arith, is (omega arith)))
no_others (suc (suc (suc (suc (suc zero))))) is = absurd (omega (arith, is (omega arith)))
no_others (suc (suc (suc (suc (suc (suc zero)))))) is = absurd (omega (arith, is (omega arith)))
no_others (suc (suc (suc (suc (suc (suc (suc zero))))))) is = absurd (omega (arith, is (omega arith)))
no_others (suc (suc (suc (suc (suc (suc (suc (suc zero)))))))) is = absurd (omega (arith, is (omega arith)))
no_others (suc (suc (suc (suc (suc (suc (suc (suc (suc zero))))))))) is = absurd (omega (arith, is (omega arith)))
no_others (suc (suc (suc (suc (suc (suc (suc (suc (suc (suc n)))))))))) is = refl

pub none_found : (name : List ℕ) → (3 ≤ length name → 10 ≤ length name) → kind_among [] name ≡ kind_named name
none_found name is =
    ap (λ ks. kind_among ks name) (sym (no_others (length name) is)) ∙ found (length name) name refl
