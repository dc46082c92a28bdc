-- Out of memory comes behind the first two lines.
use Rattle.std.proofs.Common.{◌≡◌, ℕ, Result, Ok, Err, refl}
use Rattle.std.specs.Prelude.{IfErr}
use Rattle.ft_text.specs.declared.record.LedgerFault.{LedgerFault}
use Rattle.ft_text.specs.declared.record.LedgerFault.TheVariants.{Line, NoMemory}
use Rattle.ft_text.specs.declared.record.Run.{Run}
use Rattle.ft_text.specs.LedgerWords.{said, head, play}
use Rattle.ft_text.specs.LedgerReading.{LedgerPlace, one_line}
use Rattle.ft_text.specs.LedgerAnswers.{HasFront}

pub front_known : {X : Type 0} (answer : Result X LedgerFault) (p q r : LedgerPlace) (form : ℕ) (run : Run)
    → one_line (said head) p ≡ Ok (form, q) → one_line (said play) q ≡ Ok (run, r) → IfErr answer (λ fault. HasFront fault p)
front_known (Ok x) p q r form run first second = tt
front_known (Err (Line n)) p q r form run first second = tt
front_known (Err NoMemory) p q r form run first second = (form, q, run, r, first, second)

pub line_known : {X : Type 0} (fault : LedgerFault) (p : LedgerPlace)
    → (◌≡◌ {A = Result X LedgerFault} (Err fault) (Err NoMemory) → ⊥) → HasFront fault p
line_known (Line n) p other = tt
line_known NoMemory p other = absurd (other refl)
