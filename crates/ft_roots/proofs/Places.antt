-- Lists in which the number at a place is another.
use Rattle.std.proofs.Common.{◌≡◌, ℕ, zero, suc, ◌+◌, ◌-◌, ◌*◌, ◌<◌, ◌≤◌, List, [], ◌∷◌, length, set, subst, take, drop, replicate, refl, ap, sym, ◌∙◌, arith, inl, inr, ne_eqb, eq-eqb}
use Rattle.std.specs.Prelude.{slice_index}
use Rattle.std.proofs.lemmas.Bool.{cases_eq, cases_lt}
use Rattle.std.proofs.lemmas.List.{get_or-set_same, get_or-set_other, get_or-take, get_or-drop, get_or_append_left, get_or-append_right, get_or_past, length-take, length-set, get_or-replicate, length-replicate}
use Rattle.ft_segments.specs.Packing.{packed, bytes_word, ids_word}
use Rattle.ft_edits.specs.Lists.{without_last}
use Rattle.ft_changes.specs.Parts.{put}
use Rattle.ft_image.specs.Changed.{IsOneChanged}
use Rattle.ft_roots.specs.RootWords.{HasRow}
use Rattle.ft_roots.proofs.Rows.{one_stays, one_put}

-- a number that is set
pub set_changed : (at b : ℕ) (row : List ℕ) → at < length row → IsOneChanged at b row (set row at b)
set_changed at b row lt = λ j. elim (cases_eq j at) [
  | inl same ↦ ap (slice_index (set row at b)) same ∙ get_or-set_same row at b 0 lt ∙ rw (eq-eqb j at same) refl
  | inr ne ↦ get_or-set_other row at j b 0 ne ∙ rw (ne_eqb j at ne) refl
]

-- a number put at a place, or behind the last
pub put_changed : (at id : ℕ) (row : List ℕ) → at ≤ length row → IsOneChanged at id row (put at id row)
put_changed at id row le =
    let long : length (take at row) ≡ at = omega (arith, length-take at row) in
    λ j. elim (cases_lt j at) [
      | inl lt ↦
          get_or_append_left (take at row) (id ∷ drop (suc at) row) 0 j (omega (arith, long))
          ∙ get_or-take at row j 0 lt ∙ rw (ne_eqb j at (omega arith)) refl
      | inr ge ↦
          get_or-append_right (take at row) (id ∷ drop (suc at) row) at j 0 long ge
          ∙ elim (cases_eq j at) [
            | inl same ↦
                let first : j - at ≡ 0 = omega arith in
                ap (slice_index (id ∷ drop (suc at) row)) first ∙ rw (eq-eqb j at same) refl
            | inr ne ↦
                let more : j - at ≡ suc (j - suc at) = omega arith in
                let back : suc at + (j - suc at) ≡ j = omega arith in
                ap (slice_index (id ∷ drop (suc at) row)) more
                ∙ get_or-drop (suc at) row (j - suc at) 0
                ∙ ap (slice_index row) back
                ∙ rw (ne_eqb j at ne) refl
          ]
    ]

-- the last one gone
pub last_changed : (at : ℕ) (row : List ℕ) → length row ≡ suc at → IsOneChanged at 0 row (without_last row)
last_changed at row long =
    let here : length row - 1 ≡ at = omega (arith, long) in
    let short : length (take at row) ≡ at = omega (arith, length-take at row) in
    λ j. ap (λ (n : ℕ). slice_index (take n row) j) here
    ∙ elim (cases_lt j at) [
      | inl lt ↦ get_or-take at row j 0 lt ∙ rw (ne_eqb j at (omega arith)) refl
      | inr ge ↦
          get_or_past (take at row) j 0 (omega (arith, short))
          ∙ elim (cases_eq j at) [
            | inl same ↦ rw (eq-eqb j at same) refl
            | inr ne ↦ sym (get_or_past row j 0 (omega (arith, long))) ∙ rw (ne_eqb j at ne) refl
          ]
    ]

-- ---- rows that are 0

zeros_at : (n i : ℕ) → slice_index (replicate n 0) i ≡ 0
zeros_at n i = elim (cases_lt i n) [
  | inl lt ↦ get_or-replicate n i 0 0 lt
  | inr ge ↦ get_or_past (replicate n 0) i 0 (omega (arith, length-replicate {A = ℕ} n 0))
]

packed_zero : (base n : ℕ) (number : ℕ → ℕ) → ((i : ℕ) → number i ≡ 0) → packed base n number ≡ 0
packed_zero base zero number none = refl
packed_zero base (suc n) number none =
    let first = none 0 in
    let rest = packed_zero base n (λ i. number (suc i)) (λ i. none (suc i)) in
    rw (first, rest) (omega arith)

pub zero_bytes : (n k : ℕ) → bytes_word (replicate n 0) k ≡ 0
unfolding bytes_word
zero_bytes n k = packed_zero 256 8 (λ i. slice_index (replicate n 0) (k * 8 + i)) (λ i. zeros_at n (k * 8 + i))

pub no_ids : (k : ℕ) → ids_word [] k ≡ 0
unfolding ids_word
no_ids k = packed_zero 65536 4 (λ i. slice_index [] (k * 4 + i)) (λ i. refl)

pub zero_words : (k : ℕ) → slice_index (replicate 256 0) k ≡ 0
zero_words k = zeros_at 256 k

-- ---- three words put in place of others: those of a name

pub three_before : (words : List ℕ) (a b d k : ℕ) → k < 3 → slice_index (set (set (set words 3 a) 4 b) 5 d) k ≡ slice_index words k
three_before words a b d k lt =
    one_stays (set (set words 3 a) 4 b) 5 d k (λ e. absurd (omega (arith, e, lt)))
    ∙ one_stays (set words 3 a) 4 b k (λ e. absurd (omega (arith, e, lt)))
    ∙ one_stays words 3 a k (λ e. absurd (omega (arith, e, lt)))

pub three_behind : (words : List ℕ) (a b d k : ℕ) → 6 ≤ k → slice_index (set (set (set words 3 a) 4 b) 5 d) k ≡ slice_index words k
three_behind words a b d k ge =
    one_stays (set (set words 3 a) 4 b) 5 d k (λ e. absurd (omega (arith, e, ge)))
    ∙ one_stays (set words 3 a) 4 b k (λ e. absurd (omega (arith, e, ge)))
    ∙ one_stays words 3 a k (λ e. absurd (omega (arith, e, ge)))

pub three_stay : (words : List ℕ) (a b d first count : ℕ) (row_word : ℕ → ℕ) → 6 ≤ first
    → HasRow words first count row_word → HasRow (set (set (set words 3 a) 4 b) 5 d) first count row_word
three_stay words a b d first count row_word ge has = λ k lt. three_behind words a b d (first + k) (omega arith) ∙ has k lt

pub three_put : (words : List ℕ) (a b d : ℕ) (row_word : ℕ → ℕ) → length words ≡ 256
    → a ≡ row_word 0 → b ≡ row_word 1 → d ≡ row_word 2
    → HasRow (set (set (set words 3 a) 4 b) 5 d) 3 3 row_word
three_put words a b d row_word long first second third =
    let one : length (set words 3 a) ≡ 256 = length-set words 3 a ∙ long in
    let two : length (set (set words 3 a) 4 b) ≡ 256 = length-set (set words 3 a) 4 b ∙ one in
    λ k lt. elim (cases_eq k 0) [
      | inl e ↦
          ap (λ (n : ℕ). slice_index (set (set (set words 3 a) 4 b) 5 d) (3 + n)) e
          ∙ one_stays (set (set words 3 a) 4 b) 5 d 3 (λ f. absurd (omega (arith, f)))
          ∙ one_stays (set words 3 a) 4 b 3 (λ f. absurd (omega (arith, f)))
          ∙ one_put words 3 a (omega (arith, long)) ∙ first ∙ ap row_word (sym e)
      | inr not_first ↦ elim (cases_eq k 1) [
        | inl e ↦
            ap (λ (n : ℕ). slice_index (set (set (set words 3 a) 4 b) 5 d) (3 + n)) e
            ∙ one_stays (set (set words 3 a) 4 b) 5 d 4 (λ f. absurd (omega (arith, f)))
            ∙ one_put (set words 3 a) 4 b (omega (arith, one)) ∙ second ∙ ap row_word (sym e)
        | inr nor ↦
            let e : k ≡ 2 = omega arith in
            ap (λ (n : ℕ). slice_index (set (set (set words 3 a) 4 b) 5 d) (3 + n)) e
            ∙ one_put (set (set words 3 a) 4 b) 5 d (omega (arith, two)) ∙ third ∙ ap row_word (sym e)
      ]
    ]

-- ---- bytes that are set in the first word of a row

pub set_first : (at b : ℕ) (row : List ℕ) → at < length row → IsOneChanged (0 * 8 + at) b row (set row at b)
set_first at b row lt =
    let e : at ≡ 0 * 8 + at = omega arith in
    subst (λ (n : ℕ). IsOneChanged n b row (set row at b)) e (set_changed at b row lt)
