-- What is there where no cause of an edit was met.
use Rattle.std.proofs.Common.{◌≡◌, ℕ, zero, suc, ◌-◌, ◌<◌, ◌≤◌, Bool, true, false, List, [], ◌∷◌, ◌++◌, Option, None, Some, length, refl, ap, sym, subst, ◌∙◌, arith}
use Rattle.std.specs.Prelude.{◌&&◌, nat_lt, nat_le, slice_get}
use Rattle.std.proofs.lemmas.Bool.Decides.{nat_tests}
use Rattle.ft_types.specs.declared.module.Module.{Module}
use Rattle.ft_types.specs.declared.pattern.Pattern.{Pattern}
use Rattle.ft_types.specs.declared.instrument.Instrument.{Instrument}
use Rattle.ft_types.specs.declared.sample.Sample.{Sample}
use Rattle.ft_types.specs.declared.edit_fault.EditFault.{EditFault}
use Rattle.ft_types.specs.Views.{row_count, rows_at, instrument_at, sample_in}
use Rattle.ft_edits.specs.Faults.{unless, first_cause, sampled, missing_sample, sample_count, sample_length, samples_at, frames_at}
use Rattle.ft_changes.proofs.Places.{stored}

pub passed : (test : Bool) (fault : EditFault) (causes : List (Option EditFault))
    → first_cause (unless test fault ∷ causes) ≡ None → (test ≡ true) × (first_cause causes ≡ None)
passed true fault causes none = (refl, none)
passed false fault causes none = absurd cc

pub passed_all : (first more : List (Option EditFault))
    → first_cause (first ++ more) ≡ None → (first_cause first ≡ None) × (first_cause more ≡ None)
passed_all [] more none = (refl, none)
passed_all (None ∷ causes) more none = passed_all causes more none
passed_all (Some fault ∷ causes) more none = absurd cc

pub both : (a b : Bool) → (a && b) ≡ true → (a ≡ true) × (b ≡ true)
both true b holds = (refl, holds)
both false b holds = absurd cc

pub low : (a b : ℕ) → nat_lt a b ≡ true → a < b
low a b holds = grind (arith, nat_tests)

pub most : (a b : ℕ) → nat_le a b ≡ true → a ≤ b
most a b holds = grind (arith, nat_tests)

-- ---- the parts that are named

-- the pattern is there
pub record PatternThere (song : Module) (p : ℕ) : Type 0 where
  pub pattern : Pattern
  pub there : slice_get song.patterns p ≡ Some pattern
  pub rows : rows_at song p ≡ pattern.rows

pub pattern_there : (song : Module) (p : ℕ) → p < length song.patterns → PatternThere song p
pattern_there song p lt =
    let one = stored song.patterns p lt in
    record { pattern = one.0; there = one.1; rows = ap row_count one.1 }

-- the instrument is there
pub record InstrumentThere (song : Module) (i : ℕ) : Type 0 where
  pub instrument : Instrument
  pub there : slice_get song.instruments (i - 1) ≡ Some instrument
  pub named : instrument_at song i ≡ Some instrument

pub instrument_there : (song : Module) (i : ℕ) → 0 < i → i ≤ length song.instruments → InstrumentThere song i
instrument_there song zero some le = absurd (omega (arith, some))
instrument_there song (suc n) some le =
    let one = stored song.instruments n (omega (arith, le)) in
    let e : suc n - 1 ≡ n = omega arith in
    record {
      instrument = one.0;
      there = subst (λ k. slice_get song.instruments k ≡ Some one.0) (sym e) one.1;
      named = one.1;
    }

-- the first cause of an edit of an instrument didn't come
pub instrument_passed : (song : Module) (i : ℕ) (fault : EditFault) (causes : List (Option EditFault))
    → first_cause (unless (nat_lt 0 i && nat_le i (length song.instruments)) fault ∷ causes) ≡ None
    → InstrumentThere song i × (first_cause causes ≡ None)
instrument_passed song i fault causes none =
    let p = passed (nat_lt 0 i && nat_le i (length song.instruments)) fault causes none in
    let b = both (nat_lt 0 i) (nat_le i (length song.instruments)) p.0 in
    (instrument_there song i (low 0 i b.0) (most i (length song.instruments) b.1), p.1)

-- the sample is there
pub record SampleThere (song : Module) (i s : ℕ) : Type 0 where
  pub of : InstrumentThere song i
  pub sample : Sample
  pub there : slice_get of.instrument.samples s ≡ Some sample
  pub frames : frames_at song i s ≡ length sample.frames

pub sample_passed : (song : Module) (i s : ℕ) (causes : List (Option EditFault))
    → first_cause (sampled song i s causes) ≡ None
    → SampleThere song i s × (first_cause causes ≡ None)
sample_passed song i s causes none =
    let a = instrument_passed song i _ (missing_sample song i s ∷ causes) none in
    let b = passed (nat_lt s (samples_at song i)) _ causes a.1 in
    let n : samples_at song i ≡ length a.0.instrument.samples = ap sample_count a.0.named in
    let one = stored a.0.instrument.samples s (omega (arith, low s (samples_at song i) b.0, n)) in (
      record {
        of = a.0;
        sample = one.0;
        there = one.1;
        frames = ap (λ o. sample_length (sample_in o s)) a.0.named ∙ ap sample_length one.1;
      },
      b.1,
    )
