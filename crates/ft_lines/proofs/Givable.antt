-- What is read can be given.
use Rattle.std.proofs.Common.{◌≡◌, ℕ, List, [], ◌∷◌, Option, Some, None, Result, Ok, Err, refl}
use Rattle.std.specs.Prelude.{IfOk, IfErr, IfSome}
use Rattle.std.specs.List.{All}
use Rattle.std.proofs.lemmas.List.Elements.{All-head}
use Rattle.ft_types.specs.Edits.{IsGivable}
use Rattle.ft_lines.specs.declared.fault.LineFault.{LineFault}
use Rattle.ft_lines.specs.declared.timed.Timed.{Timed}
use Rattle.ft_lines.specs.declared.timed.TimedBatch.{TimedBatch}
use Rattle.ft_lines.specs.declared.fault.LineFault.TheVariants.{Bad, NoMemory}
use Rattle.ft_lines.specs.Answers.{Tells, IsKnown}
use Rattle.ft_lines.specs.Reading.{LinePlace}
use Rattle.ft_lines.specs.Lines.{line_of}
use Rattle.ft_lines.proofs.EditsInRange.{lines_are_in_range}

pub edit_is_givable : (line : List ℕ) (r : Result (Option Timed) LineFault)
    → Tells (λ timed. (timed.at, timed.edit ∷ [])) r (line_of 0 line) → IfOk r (λ timed. IfSome timed (λ t. IsGivable t.edit))
edit_is_givable line (Ok None) told = tt
edit_is_givable line (Ok (Some timed)) told =
    All-head IsGivable timed.edit [] (lines_are_in_range 0 line timed.at (timed.edit ∷ []) told).givable
edit_is_givable line (Err fault) told = tt

pub batch_is_givable : (line : List ℕ) (r : Result (Option TimedBatch) LineFault)
    → Tells (λ timed. (timed.at, timed.batch)) r (line_of 15 line) → IfOk r (λ timed. IfSome timed (λ t. All IsGivable t.batch))
batch_is_givable line (Ok None) told = tt
batch_is_givable line (Ok (Some timed)) told = (lines_are_in_range 15 line timed.at timed.batch told).givable
batch_is_givable line (Err fault) told = tt

-- ---- out of memory

-- a line that is read
pub known_start : {X : Type 0} (r : Result X LineFault) (b : Result (Option LinePlace) ℕ) (p : LinePlace) → b ≡ Ok (Some p)
    → IfErr r (λ fault. IsKnown fault b)
known_start (Ok x) b p is = tt
known_start (Err (Bad at)) b p is = tt
known_start (Err NoMemory) b p is = (p, is)

-- a fault that isn't out of memory
pub known_fault : {X : Type 0} (fault : LineFault) (b : Result (Option LinePlace) ℕ)
    → (◌≡◌ {A = Result X LineFault} (Err fault) (Err NoMemory) → ⊥) → IsKnown fault b
known_fault (Bad at) b other = tt
known_fault NoMemory b other = absurd (other refl)
