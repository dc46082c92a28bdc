-- Lines read as far as they have a value.
use Rattle.std.proofs.Common.{◌≡◌, ℕ, ◌+◌, ◌==◌, false, List, [], ◌∷◌, ◌++◌, length, Option, Some, None, Ok, sym, ap, ◌∙◌, append_assoc, arith}
use Rattle.std.proofs.lemmas.Bool.{cond-false}
use Rattle.std.proofs.lemmas.List.{append-nil, length_push}
use Rattle.ft_text.specs.LedgerAnswers.{IsAhead, IsLast}
use Rattle.ft_text.specs.LedgerReading.{LedgerPlace, lines_from, while_some, many}

-- values before those that are read
abbrev pub front : {A : Type 0} → List A → List A × List (List ℕ) → List A × List (List ℕ)
front xs read = (xs ++ read.0, read.1)

-- a line that has a value
pub goes_on :
    {S A : Type 0} (value : S → List ℕ → Option A) (moved : S → A → S) (state : S) (line : List ℕ)
    (rest parts : List (List ℕ))
    (x : A) (xs : List A)
    → parts ≡ line ∷ rest → (length rest == 0) ≡ false → value state line ≡ Some x
    → front (xs ++ x ∷ []) (lines_from value moved (moved state x) rest) ≡ front xs (lines_from value moved state parts)
unfolding lines_from
goes_on value moved state line rest parts x xs here more said =
    let others = lines_from value moved (moved state x) rest in
    ap (λ ys. (ys, others.1)) (append_assoc xs (x ∷ []) others.0)
    ∙ ap (λ found. front xs (while_some (line ∷ rest) found (λ y. lines_from value moved (moved state y) rest)))
    (sym said)
    ∙ ap (front xs) (sym (cond-false (length rest == 0) _ _ more))
    ∙ ap (λ p. front xs (lines_from value moved state p)) (sym here)

-- a line that has none
pub stops :
    {S A : Type 0} (value : S → List ℕ → Option A) (moved : S → A → S) (state : S) (line : List ℕ)
    (rest parts : List (List ℕ))
    → parts ≡ line ∷ rest → (length rest == 0) ≡ false → value state line ≡ None
    → lines_from value moved state parts ≡ ([], parts)
unfolding lines_from
stops value moved state line rest parts here more said =
    ap (lines_from value moved state) here
    ∙ cond-false (length rest == 0) _ _ more
    ∙ ap (λ found. while_some (line ∷ rest) found (λ y. lines_from value moved (moved state y) rest)) said
    ∙ ap (λ p. ([], p)) (sym here)

-- no line is left
pub is_last :
    {S A : Type 0} (value : S → List ℕ → Option A) (moved : S → A → S) (state : S) (last : List ℕ)
    (parts : List (List ℕ))
    → parts ≡ last ∷ [] → lines_from value moved state parts ≡ ([], parts)
unfolding lines_from
is_last value moved state last parts here = ap (lines_from value moved state) here ∙ ap (λ p. ([], p)) (sym here)

-- these are all
pub are_all :
    {S A : Type 0} (value : S → List ℕ → Option A) (moved : S → A → S) (first state : S) (start p : LedgerPlace) (xs : List A)
    → front xs (lines_from value moved state p.left) ≡ lines_from value moved first start.left
    → p.at ≡ start.at + length xs → lines_from value moved state p.left ≡ ([], p.left)
    → many value moved first start ≡ Ok (xs, p)
unfolding many
are_all value moved first state start p xs read counted over =
    let all : lines_from value moved first start.left ≡ (xs, p.left) =
    sym read ∙ ap (front xs) over ∙ ap (λ ys. (ys, p.left)) (append-nil xs) in
    ap (λ r. Ok (r.0, record { at = start.at + length r.0; left = r.1 })) all
    ∙ ap (λ n. Ok (xs, record { at = n; left = p.left })) (sym counted)

-- that many were read up to a place
pub record IsRead {S A : Type 0} (value : S → List ℕ → Option A) (moved : S → A → S) (first state : S) (start p : LedgerPlace)
    (xs : List A) : Type 0 where
  pub read : front xs (lines_from value moved state p.left) ≡ lines_from value moved first start.left
  pub count : p.at ≡ start.at + length xs

pub one_more :
    {S A : Type 0} {value : S → List ℕ → Option A} {moved : S → A → S} {first state : S} {start p : LedgerPlace} {xs : List A}
    (after : S) (next : LedgerPlace) (line : List ℕ) (x : A) (ys : List A) → IsRead value moved first state start p xs
    → IsAhead p line next → value state line ≡ Some x → after ≡ moved state x → ys ≡ xs ++ x ∷ []
    → IsRead value moved first after start next ys
one_more {value = value} {moved = moved} {first = first} {state = state} {start = start} {p = p} {xs = xs} after next
    line x ys so_far ahead said moves longer =
    record {
      read =
          ap (λ s. front ys (lines_from value moved s next.left)) moves
          ∙ ap (λ zs. front zs (lines_from value moved (moved state x) next.left)) longer
          ∙ goes_on value moved state line next.left p.left x xs ahead.parts ahead.more said
          ∙ so_far.read;
      count = omega (arith, ap length longer, length_push xs x);
    }

pub none_more :
    {S A : Type 0} {value : S → List ℕ → Option A} {moved : S → A → S} {first state : S} {start p : LedgerPlace} {xs : List A}
    (next : LedgerPlace) (line : List ℕ) → IsRead value moved first state start p xs
    → IsAhead p line next → value state line ≡ None → many value moved first start ≡ Ok (xs, p)
none_more {value = value} {moved = moved} {first = first} {state = state} {start = start} {p = p} {xs = xs} next line
    so_far ahead said =
    are_all value moved first state start p xs so_far.read so_far.count
    (stops value moved state line next.left p.left ahead.parts ahead.more said)

pub no_line :
    {S A : Type 0} {value : S → List ℕ → Option A} {moved : S → A → S} {first state : S} {start p : LedgerPlace} {xs : List A}
    → IsRead value moved first state start p xs → IsLast p → many value moved first start ≡ Ok (xs, p)
no_line {value = value} {moved = moved} {first = first} {state = state} {start = start} {p = p} {xs = xs} so_far last =
    are_all value moved first state start p xs so_far.read so_far.count (is_last value moved state last.0 p.left last.1)
