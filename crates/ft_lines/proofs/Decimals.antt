-- Numbers and the words that say them.
use Rattle.std.proofs.Common.{◌≡◌, ◌≢◌, ℕ, zero, suc, ◌+◌, ◌*◌, ◌^◌, ◌<◌, ◌≤◌, Bool, true, false, cond, ◌&&◌, ◌⊎◌, inl, inr, List, [], ◌∷◌, length, get_or, take, nat_le, nat_lt, ◌-◌, Option, Some, None, refl, sym, ap, ◌∙◌, arith, ℤ, pos, negsuc, decimal}
use Rattle.std.specs.Prelude.{bytes_eq, option_map, neg_ℤ, IfSome, IfNone}
use Rattle.std.specs.Fmt.{signed_decimal, digits}
use Rattle.std.specs.Char.{digit_value}
use Rattle.std.specs.Str.Parse.{AllDigits, digits_value, signed_digits_value, without_leading_plus}
use Rattle.std.proofs.lemmas.Bool.{cases_lt, cases_eq, and_parts, and_from, le-leb, lt-leb, leb-true, cond-true, cond-false, le-ltb, lt-ltb, false_from_ne_true, ne_eqb}
use Rattle.std.proofs.lemmas.Slice.Eq.{bytes_eq-Decides}
use Rattle.std.proofs.lemmas.Str.Parse.{IsNumeralModel, numerals_by_value, tells_digits, digit_at, digits_value-take-le, without_leading_plus_none}
use Rattle.std.proofs.lemmas.Int.Digits.{digits_value_more, digits_more}
use Rattle.std.proofs.lemmas.Fmt.{decimal-digits_value, digits_decimal, first_decimal, decimal_nonempty}
use Rattle.ft_lines.specs.Values.{number_of, signed_of, is_within}

abbrev pub own : IsNumeralModel (AllDigits 10) (digits_value 10)
own = numerals_by_value (AllDigits 10) tells_digits

-- digits without leading zeros are the number that they say
pub number_of_digits : (most : ℕ) (w : List ℕ) → most < 2 ^ 64 → AllDigits 10 w → 0 < length w
    → (get_or w 0 0 ≡ 48 → length w ≡ 1) → digits_value 10 w ≤ most → number_of most w ≡ Some (digits_value 10 w)
number_of_digits most w small digits some first within =
    let n = digits_value 10 w in
    let written : decimal n ≡ w = decimal-digits_value own w digits some first (omega arith) in
    let same : bytes_eq w (decimal n) ≡ true = (bytes_eq-Decides w (decimal n)).1 (sym written) in
    cond-true (bytes_eq w (decimal n) && nat_le n most) (Some n) None (and_from _ _ same (le-leb n most within))

-- a word is no number where none that is small enough is written so
pub no_number : (most : ℕ) (w : List ℕ) → (w ≡ decimal (digits_value 10 w) → digits_value 10 w ≤ most → ⊥)
    → number_of most w ≡ None
no_number most w never =
    let n = digits_value 10 w in
    cond-false (bytes_eq w (decimal n) && nat_le n most) (Some n) None (false_from_ne_true _ (λ h.
    let parts = and_parts (bytes_eq w (decimal n)) (nat_le n most) h in
    never ((bytes_eq-Decides w (decimal n)).0 parts.0) (leb-true n most parts.1)))

-- no number has an empty word
pub no_empty_number : (most : ℕ) (w : List ℕ) → most < 2 ^ 64 → length w ≡ 0 → number_of most w ≡ None
no_empty_number most w small empty = no_number most w (λ e within.
    omega (arith, ap length e, decimal_nonempty (digits_value 10 w) (omega arith)))

decimal_zero : decimal 0 ≡ 48 ∷ []
unfolding digits
decimal_zero = refl

-- only 0 begins with 0
pub no_leading_zero : (most : ℕ) (w : List ℕ) → most < 2 ^ 64 → get_or w 0 0 ≡ 48 → 1 < length w → number_of most w ≡ None
no_leading_zero most w small first long = no_number most w (λ e within. elim (cases_eq (digits_value 10 w) 0) [
  | inl none ↦
      let one : w ≡ 48 ∷ [] = e ∙ (ap decimal none ∙ decimal_zero) in
      omega (arith, ap length one)
  | inr some ↦ omega (arith, first_decimal (digits_value 10 w) (omega arith) (omega arith), ap (λ u. get_or u 0 0) e)
])

-- a number is written in digits
pub no_other_bytes : (most : ℕ) (w : List ℕ) → most < 2 ^ 64 → (AllDigits 10 w → most < digits_value 10 w)
    → number_of most w ≡ None
no_other_bytes most w small over = no_number most w (λ e within.
    let digits : AllDigits 10 w = rw e (digits_decimal own (digits_value 10 w) (omega arith)) in
    omega (arith, over digits))

-- ---- one digit after another

digit_is : (c : ℕ) → 48 ≤ c → c ≤ 57 → digit_value c ≡ c - 48
digit_is c low high = cond-false (nat_lt c 48) 36 _ (le-ltb c 48 low) ∙ cond-true (nat_lt c 58) (c - 48) _ (lt-ltb c 58 (omega arith))

pub next_digit_value : (ds : List ℕ) (i value : ℕ) → i < length ds → 48 ≤ get_or ds i 0 → get_or ds i 0 ≤ 57
    → value ≡ digits_value 10 (take i ds) → value * 10 + (get_or ds i 0 - 48) ≡ digits_value 10 (take (i + 1) ds)
next_digit_value ds i value within low high e =
    rw (e, ← digit_is (get_or ds i 0) low high) (sym (digits_value_more 10 ds i within))

pub next_all_digits : (ds : List ℕ) (i : ℕ) → i < length ds → 48 ≤ get_or ds i 0 → get_or ds i 0 ≤ 57
    → AllDigits 10 (take i ds) → AllDigits 10 (take (i + 1) ds)
next_all_digits ds i within low high digits =
    digits_more 10 ds i within digits (rw (digit_is (get_or ds i 0) low high) (omega arith))

pub over_in_front : (most : ℕ) (ds : List ℕ) (i : ℕ) → most < digits_value 10 (take i ds) → most < digits_value 10 ds
over_in_front most ds i over = omega (arith, digits_value-take-le 10 ds i (omega arith))

-- ---- numbers below 0

-- the number below 0 of this size; 0 isn't below 0
abbrev pub negated : Option ℕ → Option ℤ
negated None = None
negated (Some zero) = None
negated (Some (suc n)) = Some (negsuc n)

chosen_negated : (b : Bool) (n : ℕ) → cond b (Some (negsuc n)) None ≡ negated (cond b (Some (suc n)) None)
chosen_negated true n = refl
chosen_negated false n = refl

chosen_nothing : (b : Bool) → None ≡ negated (cond b (Some 0) None)
chosen_nothing true = refl
chosen_nothing false = refl

le_and_more : (n most : ℕ) → nat_le n most ≡ nat_le (suc n) (most + 1)
le_and_more n most = elim (cases_lt most n) [
  | inl over ↦ lt-leb n most over ∙ sym (lt-leb (suc n) (most + 1) (omega arith))
  | inr within ↦ le-leb n most within ∙ sym (le-leb (suc n) (most + 1) (omega arith))
]

judged : ℕ → List ℕ → ℤ → Option ℤ
judged most w z = cond (bytes_eq w (signed_decimal z) && is_within most z) (Some z) None

judged_zero : (most : ℕ) (ds : List ℕ) → judged most (45 ∷ ds) (pos 0) ≡ None
unfolding judged digits
judged_zero most ds = refl

judged_below_zero : (most n : ℕ) (ds : List ℕ) → judged most (45 ∷ ds) (neg_ℤ (pos n))
    ≡ negated (cond (bytes_eq ds (decimal n) && nat_le n (most + 1)) (Some n) None)
unfolding judged
judged_below_zero most zero ds = judged_zero most ds ∙ chosen_nothing (bytes_eq ds (decimal 0) && nat_le 0 (most + 1))
judged_below_zero most (suc n) ds =
    ap (λ b. cond (bytes_eq ds (decimal (suc n)) && b) (Some (negsuc n)) None) (le_and_more n most)
    ∙ chosen_negated (bytes_eq ds (decimal (suc n)) && nat_le (suc n) (most + 1)) n

pub signed_below_zero : (most : ℕ) (ds : List ℕ) → signed_of most (45 ∷ ds) ≡ negated (number_of (most + 1) ds)
unfolding judged
signed_below_zero most ds = judged_below_zero most (digits_value 10 ds) ds

-- ---- numbers from 0 on

chosen_from_zero : (b : Bool) (n : ℕ) → cond b (Some (pos n)) None ≡ option_map pos (cond b (Some n) None)
chosen_from_zero true n = refl
chosen_from_zero false n = refl

begins_with_plus : (most n : ℕ) (w : List ℕ) → most < 2 ^ 64 → get_or w 0 0 ≡ 43 → (bytes_eq w (decimal n) && nat_le n most) ≡ false
begins_with_plus most n w small plus = false_from_ne_true _ (λ h.
    let parts = and_parts (bytes_eq w (decimal n)) (nat_le n most) h in
    let same = (bytes_eq-Decides w (decimal n)).0 parts.0 in
    let within = leb-true n most parts.1 in
    let some = decimal_nonempty n (omega arith) in
    let range = digit_at (decimal n) 0 (digits_decimal own n (omega arith)) some in
    omega (arith, range.0, ap (λ u. get_or u 0 0) same))

unsigned_value : (w : List ℕ) → get_or w 0 0 ≢ 45 → signed_digits_value 10 w ≡ pos (digits_value 10 (without_leading_plus w))
unsigned_value w first = rw (ne_eqb (get_or w 0 0) 45 first) refl

judged_from_zero : (most n : ℕ) (w : List ℕ) → judged most w (pos n)
    ≡ option_map pos (cond (bytes_eq w (decimal n) && nat_le n most) (Some n) None)
unfolding judged
judged_from_zero most n w = chosen_from_zero (bytes_eq w (decimal n) && nat_le n most) n

with_plus : (most n m : ℕ) (w : List ℕ) → most < 2 ^ 64 → get_or w 0 0 ≡ 43 → judged most w (pos n)
    ≡ option_map pos (cond (bytes_eq w (decimal m) && nat_le m most) (Some m) None)
with_plus most n m w small plus = judged_from_zero most n w
    ∙ (ap (λ b. option_map pos (cond b (Some n) None)) (begins_with_plus most n w small plus)
    ∙ sym (ap (λ b. option_map pos (cond b (Some m) None)) (begins_with_plus most m w small plus)))

pub signed_from_zero : (most : ℕ) (w : List ℕ) → most < 2 ^ 64 → get_or w 0 0 ≢ 45 → signed_of most w ≡ option_map pos (number_of most w)
unfolding judged
signed_from_zero most w small first = ap (judged most w) (unsigned_value w first) ∙ elim (cases_eq (get_or w 0 0) 43) [
  | inl plus ↦ with_plus most (digits_value 10 (without_leading_plus w)) (digits_value 10 w) w small plus
  | inr none ↦
      ap (λ u. judged most w (pos (digits_value 10 u))) (without_leading_plus_none w none)
      ∙ judged_from_zero most (digits_value 10 w) w
]

-- ---- what the digits of a word gave

pub number_found : (most : ℕ) (w : List ℕ) (r : Option ℕ) → most < 2 ^ 64 → 0 < length w
    → ((get_or w 0 0 ≡ 48) × (length w ≤ 1)) ⊎ (get_or w 0 0 ≡ 48 → ⊥)
    → IfSome r (λ n. AllDigits 10 w × (n ≡ digits_value 10 w)) → IfSome r (λ n. n ≤ most)
    → IfNone r (AllDigits 10 w → most < digits_value 10 w) → r ≡ number_of most w
number_found most w None small some first found within none = sym (no_other_bytes most w small none)
number_found most w (Some n) small some first found within none =
    let alone : get_or w 0 0 ≡ 48 → length w ≡ 1 = λ zero.
    elim first [ inl one ↦ omega (arith, one.1) | inr other ↦ absurd (other zero) ] in
    ap Some found.1 ∙ sym (number_of_digits most w small found.0 some alone (omega (arith, found.1)))
