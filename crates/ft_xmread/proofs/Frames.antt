-- The frames of a sample, one after the other.
use Rattle.std.proofs.Common.{◌≡◌, ℕ, ◌+◌, ◌*◌, ◌%◌, ◌<◌, ◌≤◌, List, [], ◌∷◌, ◌++◌, length, get_or, drop, map, ℤ, refl, sym, ap, ◌∙◌, append_assoc, arith}
use Rattle.std.proofs.lemmas.List.{drop_more, append-nil}
use Rattle.std.specs.Int.{w8, w16, cast_signed}
use Rattle.byteorder.specs.Endian.{little_number}
use Rattle.ft_format.specs.Sample.{sums_from, pairs_of}

-- the first frame of those that are left, and then the others
next_sum : (f : ℕ → ℤ) (span step before value : ℕ) (others : List ℕ) (front total : List ℤ)
    → value ≡ (before + step) % span
    → front ++ map f (sums_from span before (step ∷ others)) ≡ total
    → (front ++ f value ∷ []) ++ map f (sums_from span value others) ≡ total
next_sum f span step before value others front total e so_far = rw (sym so_far, e) (simp append_assoc)

pub next_frame : (steps : List ℕ) (i before value : ℕ) (front : List ℤ) (total : List ℤ) → i < length steps
    → value ≡ (before + get_or steps i 0) % 256
    → front ++ map (cast_signed w8) (sums_from 256 before (drop i steps)) ≡ total
    → (front ++ cast_signed w8 value ∷ []) ++ map (cast_signed w8) (sums_from 256 value (drop (i + 1) steps)) ≡ total
next_frame steps i before value front total lt e so_far =
    next_sum (cast_signed w8) 256 (get_or steps i 0) before value (drop (i + 1) steps) front total e
    (sym (ap (λ (l : List ℕ). front ++ map (cast_signed w8) (sums_from 256 before l)) (drop_more steps i 0 lt)) ∙ so_far)

-- the first number of two bytes, and then the others
more_pairs : (bytes : List ℕ) (i : ℕ) → 2 * i + 1 < length bytes
    → pairs_of (drop (2 * i) bytes) ≡ little_number 2 (drop (2 * i) bytes) ∷ pairs_of (drop (2 * (i + 1)) bytes)
more_pairs bytes i lt =
    let first = drop_more bytes (2 * i) 0 (omega arith) in
    let second = drop_more bytes (2 * i + 1) 0 lt in
    let next : 2 * (i + 1) ≡ 2 * i + 1 + 1 = omega arith in
    let same : get_or bytes (2 * i + 1) 0 ≡ get_or bytes (2 * i + 1) 0 + 0 = omega arith in
    rw (next, first, second)
    (ap (λ (high : ℕ). (get_or bytes (2 * i) 0 + 256 * high) ∷ pairs_of (drop (2 * i + 1 + 1) bytes)) same)

pub next_wide : (bytes : List ℕ) (i before value : ℕ) (front : List ℤ) (total : List ℤ) → 2 * i + 1 < length bytes
    → value ≡ (before + little_number 2 (drop (2 * i) bytes)) % 65536
    → front ++ map (cast_signed w16) (sums_from 65536 before (pairs_of (drop (2 * i) bytes))) ≡ total
    → (front ++ cast_signed w16 value ∷ [])
    ++ map (cast_signed w16) (sums_from 65536 value (pairs_of (drop (2 * (i + 1)) bytes))) ≡ total
next_wide bytes i before value front total lt e so_far =
    next_sum (cast_signed w16) 65536 (little_number 2 (drop (2 * i) bytes)) before value
    (pairs_of (drop (2 * (i + 1)) bytes)) front total e
    (sym (ap (λ (l : List ℕ). front ++ map (cast_signed w16) (sums_from 65536 before l)) (more_pairs bytes i lt))
    ∙ so_far)

-- at most one byte makes no number
no_pairs : (bytes : List ℕ) → length bytes ≤ 1 → pairs_of bytes ≡ []
no_pairs [] le = refl
no_pairs (low ∷ []) le = refl
no_pairs (low ∷ (high ∷ bytes)) le = absurd (omega arith)

pub last_wide : (bytes : List ℕ) (before : ℕ) (front total : List ℤ) → length bytes ≤ 1
    → front ++ map (cast_signed w16) (sums_from 65536 before (pairs_of bytes)) ≡ total → front ≡ total
last_wide bytes before front total le so_far =
    sym (append-nil front)
    ∙ sym (ap (λ (l : List ℕ). front ++ map (cast_signed w16) (sums_from 65536 before l)) (no_pairs bytes le))
    ∙ so_far
