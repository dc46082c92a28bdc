-- Words of rows in which one number is another.
use Rattle.std.proofs.Common.{◌≡◌, ◌≢◌, ℕ, ◌+◌, ◌*◌, ◌/◌, ◌%◌, ◌==◌, ◌<◌, List, All, length, refl, ap, sym, ◌∙◌, arith, inl, inr, ne_eqb, eq-eqb}
use Rattle.std.specs.Prelude.{slice_index, get_or, if◌then◌else◌}
use Rattle.std.proofs.lemmas.Bool.{cases_eq, cases_lt}
use Rattle.std.proofs.lemmas.List.{get_or_past}
use Rattle.ft_segments.specs.Packing.{packed, digit, bytes_word, ids_word}
use Rattle.ft_image.specs.Changed.{IsOneChanged}
use Rattle.ft_image.proofs.Packed.{digit-packed, packed-same}

-- away from the place the row is as it was
pub elsewhere : (at number : ℕ) (row new : List ℕ) (j : ℕ) → IsOneChanged at number row new → j ≢ at → slice_index new j ≡ slice_index row j
elsewhere at number row new j changed ne = changed j ∙ rw (ne_eqb j at ne) refl

pub there : (at number : ℕ) (row new : List ℕ) (j : ℕ) → IsOneChanged at number row new → j ≡ at → slice_index new j ≡ number
there at number row new j changed same = changed j ∙ rw (eq-eqb j at same) refl

pub bytes_stay : (at number k : ℕ) (row new : List ℕ) → IsOneChanged at number row new → k ≢ at / 8 → bytes_word new k ≡ bytes_word row k
unfolding bytes_word
bytes_stay at number k row new changed ne =
    packed-same 256 8 (λ i. slice_index new (k * 8 + i)) (λ i. slice_index row (k * 8 + i))
    (λ i lt. elsewhere at number row new (k * 8 + i) changed (λ same. ne (omega (arith, same, lt))))

pub ids_stay : (at number k : ℕ) (row new : List ℕ) → IsOneChanged at number row new → k ≢ at / 4 → ids_word new k ≡ ids_word row k
unfolding ids_word
ids_stay at number k row new changed ne =
    packed-same 65536 4 (λ i. slice_index new (k * 4 + i)) (λ i. slice_index row (k * 4 + i))
    (λ i lt. elsewhere at number row new (k * 4 + i) changed (λ same. ne (omega (arith, same, lt))))

low : (base : ℕ) (row : List ℕ) (k : ℕ) → 0 < base → All (λ x. x < base) row → get_or row k 0 < base
low base row k some are =
    elim (cases_lt k (length row)) [
      | inl lt ↦ are k 0 lt
      | inr le ↦ rw (get_or_past row k 0 le) some
    ]

-- a word of n numbers that are taken apart, one of them changed
pub one_put : (base n word place number first : ℕ) (numbers row new : List ℕ) → 0 < base → All (λ x. x < base) row
    → word ≡ packed base n (λ i. slice_index row (first + i))
    → IsOneChanged (first + place) number row new
    → ((i : ℕ) → i < n → slice_index numbers i ≡ (if i == place then number else digit base word i))
    → packed base n (λ i. slice_index numbers i) ≡ packed base n (λ i. slice_index new (first + i))
one_put base n word place number first numbers row new some are is changed taken =
    packed-same base n (λ i. slice_index numbers i) (λ i. slice_index new (first + i))
    (λ i lt. elim (cases_eq i place) [
      | inl same ↦ taken i lt ∙ rw (eq-eqb i place same) (sym (there (first + place) number row new (first + i) changed (omega (arith, same))))
      | inr ne ↦
          let apart : first + i ≢ first + place = λ e. ne (omega (arith, e)) in
          let e : digit base word i ≡ slice_index row (first + i) =
          ap (λ w. digit base w i) is
          ∙ digit-packed base n (λ j. slice_index row (first + j)) i (λ j. low base row (first + j) some are) lt in
          taken i lt ∙ rw (ne_eqb i place ne) (e ∙ sym (elsewhere (first + place) number row new (first + i) changed apart))
    ])

pub id_read : (row : List ℕ) (i : ℕ) → All (λ x. x < 65536) row → digit 65536 (ids_word row (i / 4)) (i % 4) ≡ slice_index row i
unfolding ids_word
id_read row i are =
    let same : i / 4 * 4 + i % 4 ≡ i = omega arith in
    digit-packed 65536 4 (λ j. slice_index row (i / 4 * 4 + j)) (i % 4) (λ j. low 65536 row (i / 4 * 4 + j) (omega arith) are) (omega arith)
    ∙ ap (slice_index row) same
