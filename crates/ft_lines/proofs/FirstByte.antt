-- A word that begins with another byte is another word.
use Rattle.std.proofs.Common.{rules, ◌≡◌, ◌+◌, ◌≤◌, ℕ, zero, suc, true, false, Bool, List, [], ◌∷◌, take, drop, length, Option, None, Ok, Err, refl, ap, nat_eq, slice_index_or, arith}
use Rattle.std.specs.Prelude.{not, ◌==◌}
use Rattle.std.specs.Bool.{OnTrue}
use Rattle.ft_lines.specs.Reading.{LinePlace, spaces, word_length, next_word, word, or_wrong, beyond}
use Rattle.ft_lines.specs.Lines.{this_word}

another : (b a n : ℕ) (t u : List ℕ) → nat_eq b a ≡ false → this_word (a ∷ u) (take n (b ∷ t)) ≡ None
another b a zero t u apart = refl
another b a (suc n) t u apart = rw apart refl

has_length : (b : ℕ) (t : List ℕ) → (length (b ∷ t) == 0) ≡ false
has_length b t = search rules

begins : (p : LinePlace) (b : ℕ) (t : List ℕ) → drop (spaces p.left) p.left ≡ b ∷ t
    → next_word p ≡ Ok (
      (p.at + spaces p.left, take (word_length (b ∷ t)) (b ∷ t)),
      beyond (word_length (b ∷ t)) (record { at = p.at + spaces p.left; left = b ∷ t }),
    )
unfolding next_word
begins p b t e = rw (e, has_length b t) refl

-- no word begins with a byte that it doesn't begin with
no_such : (p : LinePlace) (b a : ℕ) (t u : List ℕ) → drop (spaces p.left) p.left ≡ b ∷ t → nat_eq b a ≡ false
    → word (this_word (a ∷ u)) p ≡ Err (p.at + spaces p.left)
no_such p b a t u e apart =
    let at = p.at + spaces p.left in
    let place : LinePlace = beyond (word_length (b ∷ t)) (record { at = at; left = b ∷ t }) in
    rw (begins p b t e) (ap (λ (v : Option (List ℕ)). or_wrong at v place) (another b a (word_length (b ∷ t)) t u apart))

by_bytes : (p : LinePlace) (b a : ℕ) (t u : List ℕ) (r : Bool) → nat_eq b a ≡ r
    → drop (spaces p.left) p.left ≡ b ∷ t
    → OnTrue (not r) ((at : ℕ) × (word (this_word (a ∷ u)) p ≡ Err at))
by_bytes p b a t u true same e = tt
by_bytes p b a t u false apart e = (p.at + spaces p.left, no_such p b a t u e apart)

pub otherwise : (p : LinePlace) (rest wanted : List ℕ) → drop (spaces p.left) p.left ≡ rest → 1 ≤ length rest
    → 1 ≤ length wanted → OnTrue (not (nat_eq (slice_index_or rest 0 0) (slice_index_or wanted 0 0)))
    ((at : ℕ) × (word (this_word wanted) p ≡ Err at))
otherwise p [] wanted e some more = absurd (omega arith)
otherwise p (b ∷ t) [] e some more = absurd (omega arith)
otherwise p (b ∷ t) (a ∷ u) e some more = by_bytes p b a t u (nat_eq b a) refl e
