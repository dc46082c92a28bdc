-- The Amiga periods of all notes, by computation: how they fall, and their ends.
use Rattle.std.proofs.Common.{◌≡◌, ℕ, zero, suc, ◌≤◌, ◌<◌, ◌+◌, ◌-◌, ◌*◌, ◌/◌, ◌&&◌, leb, ℤ, pos, negsuc, Bool, true, refl, ap, arith}
use Rattle.std.specs.Prelude.{◌≤ℤ◌, nat_abs}
use Rattle.std.proofs.lemmas.Bool.{leb-true, and_parts}
use Rattle.std.proofs.lemmas.Int.{ints}
use borrow.Author.Count.{below_more}
use Rattle.ft_tables.specs.Pitch.{amiga_note, amiga_before, amiga_period_of}

abbrev holds_below : (ℕ → Bool) → ℕ → Bool
holds_below test zero = true
holds_below test (suc n) = test n && holds_below test n

at_each : (test : ℕ → Bool) (n : ℕ) → holds_below test n ≡ true → (m : ℕ) → m < n → test m ≡ true
at_each test zero all m lt = absurd (omega arith)
at_each test (suc n) all m lt =
    let both = and_parts (test n) (holds_below test n) all in
    below_more (λ (k : ℕ). test k ≡ true) n (at_each test n both.1) both.0 m (omega arith)

pub falls : (note : ℕ) → note ≤ 118 → amiga_note (note + 1) ≤ amiga_note note
falls note le = leb-true (amiga_note (note + 1)) (amiga_note note)
    (at_each (λ (n : ℕ). leb (amiga_note (n + 1)) (amiga_note n)) 119 refl note (omega arith))

pub before : (note : ℕ) → note ≤ 118 → amiga_note note ≤ amiga_before note
before note le = leb-true (amiga_note note) (amiga_before note)
    (at_each (λ (n : ℕ). leb (amiga_note n) (amiga_before n)) 119 refl note (omega arith))

pub lowest : (note : ℕ) → note ≤ 119 → 28 ≤ amiga_note note
lowest note le = leb-true 28 (amiga_note note) (at_each (λ (n : ℕ). leb 28 (amiga_note n)) 120 refl note (omega arith))

pub highest : (note : ℕ) → note ≤ 119 → amiga_before note ≤ 28992
highest note le =
    leb-true (amiga_before note) 28992 (at_each (λ (n : ℕ). leb (amiga_before n) 28992) 120 refl note (omega arith))

-- a finetune from 0 on goes towards the next note, and one below 0 towards the one before
pub tuned_up : (note : ℕ) (finetune : ℤ) → pos 0 ≤ℤ finetune
    → amiga_note note - (amiga_note note - amiga_note (note + 1)) * nat_abs finetune / 128
    ≡ amiga_period_of note finetune
unfolding amiga_period_of
tuned_up note (pos up) le = refl
tuned_up note (negsuc down) le = absurd (omega (arith, ints))

pub tuned_down : (note : ℕ) (finetune : ℤ) → finetune ≤ℤ negsuc 0
    → amiga_note note + (amiga_before note - amiga_note note) * nat_abs finetune / 128 ≡ amiga_period_of note finetune
unfolding amiga_period_of
tuned_down note (pos up) le = absurd (omega (arith, ints))
tuned_down note (negsuc down) le =
    ap (λ (n : ℕ). amiga_note note + (amiga_before note - amiga_note note) * n / 128) {x = suc down} {y = down + 1}
    (omega arith)
