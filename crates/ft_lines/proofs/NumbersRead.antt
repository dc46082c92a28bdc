-- Numbers that are read one by one.
use Rattle.std.proofs.Common.{◌≡◌, ℕ, List, [], ◌∷◌, ◌++◌, Result, Ok, Err, ℤ, refl, sym, ap, subst, ◌∙◌, append_assoc, append-nil}
use Rattle.ft_types.specs.declared.edit_kind.NumberType.{NumberType}
use Rattle.ft_lines.specs.declared.fault.LineFault.{LineFault}
use Rattle.ft_lines.specs.declared.fault.LineFault.TheVariants.{Bad, NoMemory}
use Rattle.ft_lines.specs.Sequence.{give, follow, ◌>>=◌}
use Rattle.ft_lines.specs.Reading.{LinePlace, Reading, word}
use Rattle.ft_lines.specs.Answers.{Fails}
use Rattle.ft_lines.specs.Edits.{number_word, one_number, numbers_reading}

-- numbers behind those that were read
abbrev pub behind_numbers : List ℤ → List NumberType → Reading (List ℤ)
behind_numbers front ts = numbers_reading ts >>= (λ ns. give (front ++ ns))

nothing_in_front : (r : Result (List ℤ × LinePlace) ℕ) → follow (λ ns. give ([] ++ ns)) r ≡ r
nothing_in_front (Ok read) = refl
nothing_in_front (Err at) = refl

pub from_none : (ts : List NumberType) (p : LinePlace) → behind_numbers [] ts p ≡ numbers_reading ts p
from_none ts p = nothing_in_front (numbers_reading ts p)

one_more : (front : List ℤ) (n : ℤ) (r : Result (List ℤ × LinePlace) ℕ)
    → follow (λ ns. give ((front ++ n ∷ []) ++ ns)) r ≡ follow (λ ns. give (front ++ ns)) (follow (λ ns. give (n ∷ ns)) r)
one_more front n (Ok read) = ap (λ ns. Ok (ns, read.1)) (append_assoc front (n ∷ []) read.0)
one_more front n (Err at) = refl

pub number_follows : (front after : List ℤ) (t : NumberType) (ts : List NumberType) (p q : LinePlace)
    → one_number front t p ≡ Ok (after, q) → behind_numbers after ts q ≡ behind_numbers front (t ∷ ts) p
number_follows front after t ts p q h = go (word (number_word t) p) refl h where
  go : (r : Result (ℤ × LinePlace) ℕ) → word (number_word t) p ≡ r → follow (λ n. give (front ++ n ∷ [])) r ≡ Ok (after, q)
      → behind_numbers after ts q ≡ behind_numbers front (t ∷ ts) p
  go (Err at) e k = absurd (cc)
  go (Ok read) e k =
      let pair : ◌≡◌ {A = List ℤ × LinePlace} (front ++ read.0 ∷ [], read.1) (after, q) = cc in
      subst (λ x. behind_numbers x.0 ts x.1 ≡ behind_numbers front (t ∷ ts) p) pair
      (rw e (one_more front read.0 (numbers_reading ts read.1)))

wrong_there : (at : ℕ) (front : List ℤ) (t : NumberType) (ts : List NumberType) (p : LinePlace) → one_number front t p ≡ Err at
    → behind_numbers front (t ∷ ts) p ≡ Err at
wrong_there at front t ts p h = go (word (number_word t) p) refl h where
  go : (r : Result (ℤ × LinePlace) ℕ) → word (number_word t) p ≡ r → follow (λ n. give (front ++ n ∷ [])) r ≡ Err at
      → behind_numbers front (t ∷ ts) p ≡ Err at
  go (Ok read) e k = absurd (cc)
  go (Err x) e k = rw e k

pub number_is_wrong : (fault : LineFault) (front : List ℤ) (t : NumberType) (ts : List NumberType) (p : LinePlace)
    (whole : Result (List ℤ × LinePlace) ℕ) → Fails fault (one_number front t p) → behind_numbers front (t ∷ ts) p ≡ whole
    → Fails fault whole
number_is_wrong (Bad at) front t ts p whole wrong is = sym is ∙ wrong_there at front t ts p wrong
number_is_wrong NoMemory front t ts p whole wrong is = tt

pub nothing_left : (front : List ℤ) (p : LinePlace) (whole : Result (List ℤ × LinePlace) ℕ) → behind_numbers front [] p ≡ whole
    → whole ≡ Ok (front, p)
nothing_left front p whole is = sym is ∙ ap (λ ns. Ok (ns, p)) (append-nil front)
