-- Numbers side by side in a word: each is read by its place.
use Rattle.std.proofs.Common.{◌≡◌, ℕ, zero, suc, ◌+◌, ◌*◌, ◌/◌, ◌%◌, ◌<◌, List, get_or, length, refl, ap, ◌∙◌, arith, inl, inr}
use Rattle.std.specs.Prelude.{All, slice_index}
use Rattle.std.proofs.lemmas.Nat.{div-mul-add, mod-mul-add}
use Rattle.std.proofs.lemmas.Bool.{cases_lt}
use Rattle.std.proofs.lemmas.List.{get_or_past}
use Rattle.ft_segments.specs.Packing.{packed, digit, bytes_word}

pub digit-packed : (base n : ℕ) (number : ℕ → ℕ) (i : ℕ) → ((k : ℕ) → number k < base) → i < n
    → digit base (packed base n number) i ≡ number i
digit-packed base zero number i low lt = absurd (omega arith)
digit-packed base (suc n) number zero low lt =
    let rest = packed base n (λ k. number (suc k)) in
    let e : number 0 + base * rest ≡ rest * base + number 0 = grind arith in
    rw e (mod-mul-add rest base (number 0) (low 0))
digit-packed base (suc n) number (suc i) low lt =
    let rest = packed base n (λ k. number (suc k)) in
    let e : number 0 + base * rest ≡ rest * base + number 0 = grind arith in
    let up : (number 0 + base * rest) / base ≡ rest = rw e (div-mul-add rest base (number 0) (low 0)) in
    rw up (digit-packed base n (λ k. number (suc k)) i (λ k. low (suc k)) (omega arith))

low : (bytes : List ℕ) (k : ℕ) → All (λ byte. byte < 256) bytes → get_or bytes k 0 < 256
low bytes k are =
    elim (cases_lt k (length bytes)) [
      | inl lt ↦ are k 0 lt
      | inr le ↦ rw (get_or_past bytes k 0 le) (omega arith)
    ]

-- a byte of a row is read from its word
pub byte-read : (bytes : List ℕ) (word i : ℕ) → All (λ byte. byte < 256) bytes → word ≡ bytes_word bytes (i / 8)
    → digit 256 word (i % 8) ≡ slice_index bytes i
unfolding bytes_word
byte-read bytes word i are is =
    let same : i / 8 * 8 + i % 8 ≡ i = omega arith in
    ap (λ (w : ℕ). digit 256 w (i % 8)) is
    ∙ digit-packed 256 8 (λ j. get_or bytes (i / 8 * 8 + j) 0) (i % 8) (λ j. low bytes (i / 8 * 8 + j) are) (omega arith)
    ∙ ap (λ (n : ℕ). get_or bytes n 0) same

-- a byte of a row of at most eight
pub first-read : (bytes : List ℕ) (word i : ℕ) → All (λ byte. byte < 256) bytes → word ≡ bytes_word bytes 0 → i < 8
    → digit 256 word i ≡ slice_index bytes i
unfolding bytes_word
first-read bytes word i are is lt =
    ap (λ (w : ℕ). digit 256 w i) is
    ∙ digit-packed 256 8 (λ j. get_or bytes (0 * 8 + j) 0) i (λ j. low bytes (0 * 8 + j) are) lt
    ∙ ap (λ (n : ℕ). get_or bytes n 0) (omega arith)

pub packed-same : (base n : ℕ) (f g : ℕ → ℕ) → ((k : ℕ) → k < n → f k ≡ g k) → packed base n f ≡ packed base n g
packed-same base zero f g same = refl
packed-same base (suc n) f g same =
    let a : f 0 ≡ g 0 = same 0 (omega arith) in
    let b : packed base n (λ k. f (suc k)) ≡ packed base n (λ k. g (suc k))
    = packed-same base n (λ k. f (suc k)) (λ k. g (suc k)) (λ k lt. same (suc k) (omega arith)) in
    rw (a, b) refl
