-- Readings and what readers answer.
use Rattle.std.proofs.Common.{◌≡◌, ℕ, suc, true, false, List, [], ◌∷◌, ◌++◌, Result, Ok, Err, refl, sym, ap, ◌∙◌, append_assoc, append-nil}
use Rattle.ft_types.specs.declared.edit.Edit.{Edit}
use Rattle.ft_lines.specs.declared.fault.LineFault.{LineFault}
use Rattle.ft_lines.specs.declared.fault.LineFault.TheVariants.{Bad, NoMemory}
use Rattle.ft_lines.specs.Sequence.{give, follow}
use Rattle.ft_lines.specs.Reading.{LinePlace, is_over}
use Rattle.ft_lines.specs.Answers.{Fails, Reads}
use Rattle.ft_lines.specs.Lines.{another_reading, others_reading, edits_behind}

-- a fault that isn't running out of memory has a place
pub wrong_place : {Y : Type 0} (fault : LineFault) (read : Result Y ℕ) → Fails fault read
    → (◌≡◌ {A = Result (Unit {0}) LineFault} (Err fault) (Err NoMemory) → ⊥) → (at : ℕ) × (read ≡ Err at)
wrong_place (Bad at) read is memory = (at, is)
wrong_place NoMemory read is memory = absurd (memory refl)

-- ---- further edits of a line

behind_one_more : (front : List Edit) (edit : Edit) (read : Result (List Edit × LinePlace) ℕ)
    → follow (λ others. give ((front ++ edit ∷ []) ++ others)) read
    ≡ follow (λ others. give (front ++ others)) (follow (λ others. give (edit ∷ others)) read)
behind_one_more front edit (Ok read) = ap (λ edits. Ok (edits, read.1)) (append_assoc front (edit ∷ []) read.0)
behind_one_more front edit (Err at) = refl

pub none_follows : (front : List Edit) (more : ℕ) (p : LinePlace) → is_over p ≡ true
    → edits_behind front (others_reading (suc more)) p ≡ Ok (front, p)
unfolding others_reading
none_follows front more p over = rw over (ap (λ edits. Ok (edits, p)) (append-nil front))

pub edit_is_wrong : (fault : LineFault) (front : List Edit) (more : ℕ) (p : LinePlace)
    (whole : Result (List Edit × LinePlace) ℕ) → is_over p ≡ false → Fails fault (another_reading p)
    → edits_behind front (others_reading (suc more)) p ≡ whole → Fails fault whole
unfolding others_reading
edit_is_wrong (Bad at) front more p whole over wrong is = sym is ∙ rw (over, wrong) refl
edit_is_wrong NoMemory front more p whole over wrong is = tt

pub another_follows : (front : List Edit) (more : ℕ) (p q : LinePlace) (edit : Edit) → is_over p ≡ false
    → another_reading p ≡ Ok (edit, q)
    → edits_behind (front ++ edit ∷ []) (others_reading more) q ≡ edits_behind front (others_reading (suc more)) p
unfolding others_reading
another_follows front more p q edit over read = rw (over, read) (behind_one_more front edit (others_reading more q))

pub nothing_more : (front : List Edit) (r : Result (Unit {0}) LineFault) (p q : LinePlace) (whole : Result (List Edit × LinePlace) ℕ)
    → Reads {Y = List Edit} (λ _. []) r q (others_reading 0 p) → edits_behind front (others_reading 0) p ≡ whole
    → Reads {Y = List Edit} (λ _. front) r q whole
nothing_more front (Ok x) p q whole ends is = sym is ∙ rw ends (ap (λ edits. Ok (edits, q)) (append-nil front))
nothing_more front (Err (Bad at)) p q whole wrong is = sym is ∙ rw wrong refl
nothing_more front (Err NoMemory) p q whole wrong is = tt
