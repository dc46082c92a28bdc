-- A whole scan: what it leaves of the pass, and how many segments it left free.
use Rattle.std.proofs.Common.{◌≡◌, ◌↔◌, inl, inr, ◌<◌, ◌≤◌, ◌+◌, ℕ, zero, suc, Bool, true, false, List, [], ◌∷◌, length, get_or, refl, sym, ap, subst, ◌∙◌, ⊎_elim, lt-ltb, arith}
use Rattle.std.specs.Prelude.{nat_lt}
use Rattle.ft_shared.specs.declared.law.PinAnswer.{PinAnswer}
use Rattle.ft_shared.specs.declared.law.WordStep.{WordStep}
use Rattle.ft_shared.specs.declared.law.Account.{Account}
use Rattle.ft_shared.specs.Account.{Found, IsAnswered}
use Rattle.ft_shared.specs.Counts.{bit, sum_below}
use Rattle.ft_shared.specs.Free.{finds, is_found, found_in_pool, free_in_pool}
use Rattle.ft_shared.specs.Pass.{WriterState}
use Rattle.ft_shared.specs.Segments.{KeepsHeld}
use Rattle.ft_retire.specs.Births.{BirthsState}
use Rattle.ft_retire.specs.Marks.{unmarked_in}
use Rattle.ft_desk.specs.Survey.{AreMarksOf, IsMarked, HasScanned, HasSeenPins}

-- ---- the pass

pub scanned_on : (one next last : WriterState) → HasScanned one next → HasSeenPins next last → HasScanned one last
scanned_on one next last e f = subst (HasScanned one) (sym f.is) (record {
  register = e.register;
  sizes = e.sizes;
  version = e.version;
  root = e.root;
  slot = e.slot;
  versions = e.versions;
  settled = e.settled;
  history = e.history;
  pool = e.pool;
  filled = e.filled;
})

keeps_with : (a : Account) (pins : List PinAnswer) (pinned : ℕ) (steps : List WordStep) → KeepsHeld a
    → KeepsHeld (record a { pin_scan = pins; pinned = pinned; steps = steps })
keeps_with a pins pinned steps kept = record {
  current = kept.current;
  answered = kept.answered;
  settled = λ k hold lt.
      let one = kept.settled k hold lt in
      record {
        held = one.held;
        wide = one.wide;
        pins = λ channel pin is.
            let stands = one.pins channel pin is in
            record { small = stands.small; known = stands.known; unwritten = stands.unwritten };
      };
}

pub keeps_on : (next last : WriterState) → HasSeenPins next last → KeepsHeld next.account → KeepsHeld last.account
keeps_on next last f kept =
    subst (λ (w : WriterState). KeepsHeld w.account) (sym f.is) (keeps_with next.account f.pins f.pinned f.steps kept)

-- ---- the marks

pub marks_find : (segments : ℕ) (a : Account) (births : BirthsState) → AreMarksOf segments a births → IsAnswered a a.version
    → (s : ℕ) → s < segments → IsMarked births s ↔ Found a s
marks_find segments a births marks current s lt = (
  (λ m. inr ((marks.marked s lt).0 m)),
  (λ found. (marks.marked s lt).1 (⊎_elim (λ of. inl (a.version, current, of)) (λ named. named) found)),
)

sum_shift : (f : ℕ → ℕ) (n : ℕ) → sum_below f (suc n) ≡ f 0 + sum_below (λ k. f (suc k)) n
unfolding sum_below
sum_shift f zero = refl
sum_shift f (suc n) = let rest = sum_shift f n in omega arith

counted : (marks : List Bool) (f : ℕ → ℕ) → ((s : ℕ) → s < length marks → f s ≡ bit (get_or marks s true))
    → unmarked_in marks + sum_below f (length marks) ≡ length marks
unfolding sum_below
counted [] f each = refl
counted (true ∷ marks) f each =
    let first = each 0 (omega arith) in
    let rest = counted marks (λ k. f (suc k)) (λ s lt. each (suc s) (omega arith)) in
    let shift = sum_shift f (length marks) in omega arith
counted (false ∷ marks) f each =
    let first = each 0 (omega arith) in
    let rest = counted marks (λ k. f (suc k)) (λ s lt. each (suc s) (omega arith)) in
    let shift = sum_shift f (length marks) in omega arith

bit_is : (n : ℕ) (b : Bool) → ((b ≡ true) ↔ (1 ≤ n)) → bit (nat_lt 0 n) ≡ bit b
bit_is zero true e = absurd (let h = e.0 refl in omega arith)
bit_is zero false e = refl
bit_is (suc n) true e = ap bit (lt-ltb 0 (suc n) (omega arith))
bit_is (suc n) false e = absurd (let h = e.1 (omega arith) in cc)

pub free_is : ((account : Account) (segment : ℕ) → 1 ≤ finds account segment ↔ Found account segment)
    → (segments : ℕ) (a : Account) (births : BirthsState) → AreMarksOf segments a births → IsAnswered a a.version
    → a.sizes.segments ≡ segments → unmarked_in births.marks ≡ free_in_pool a
free_is law segments a births marks current same =
    let many = marks.many in
    let all = counted births.marks (is_found a) (λ s lt.
    let here = marks_find segments a births marks current s (omega arith) in
    bit_is (finds a s) (get_or births.marks s true)
    ((λ m. (law a s).1 (here.0 m)), (λ one. here.1 ((law a s).0 one)))) in
    let long : sum_below (is_found a) (length births.marks) ≡ found_in_pool a
    = ap (sum_below (is_found a)) (many ∙ sym same) in
    omega arith
