-- The values of words are in the ranges of their types.
use Rattle.std.proofs.Common.{decimal, ◌≡◌, ℕ, suc, ◌+◌, ◌-◌, ◌*◌, ◌^◌, ◌<◌, ◌≤◌, ◌&&◌, true, inl, inr, List, [], ◌∷◌, ◌++◌, length, get_or, replicate, nat_le, All, Option, Some, None, Result, Ok, Err, ℤ, pos, negsuc, refl, sym, ap, subst, ◌∙◌, arith}
use Rattle.std.specs.Prelude.{FitsSigned, bytes_eq}
use Rattle.std.specs.Fmt.{signed_decimal}
use Rattle.std.specs.Int.{w8, w16, w64, cast_signed}
use Rattle.std.specs.Str.Parse.{digits_value, signed_digits_value}
use Rattle.std.proofs.lemmas.Bool.{cases_Bool, cond-true, cond-false, and_parts, leb-true}
use Rattle.std.proofs.lemmas.List.{length-append, length-replicate}
use Rattle.std.proofs.lemmas.List.Elements.{All-nil, All-cons, All-head, All-tail, All-append, All-replicate}
use Rattle.std.proofs.Math.Facts.{sfits_to_z}
use Rattle.hex.specs.Hex.{decode_of, encode_lower}
use Rattle.hex.specs.declared.error.FromHexError.{FromHexError}
use Rattle.hex.proofs.HexLemmas.{decode_of-ok}
use Rattle.ft_lines.specs.Values.{number_of, signed_of, is_within, name_of, filled, bytes_of, lower_only, doubles, frame_before, pasted_frames, doubles_if, frames_of}
use Rattle.ft_types.specs.Valid.{IsBytes}

-- ---- numbers

pub number_within : (most n : ℕ) (w : List ℕ) → number_of most w ≡ Some n → n ≤ most
number_within most n w h = elim (cases_Bool (bytes_eq w (decimal (digits_value 10 w)) && nat_le (digits_value 10 w) most)) [
  | inl so ↦
      let e : Some (digits_value 10 w) ≡ Some n = sym (cond-true _ (Some (digits_value 10 w)) None so) ∙ h in
      let same : digits_value 10 w ≡ n = cc in
      omega (arith, leb-true (digits_value 10 w) most (and_parts _ _ so).1)
  | inr other ↦ absurd (cc (cond-false _ (Some (digits_value 10 w)) None other, h))
]

-- ---- numbers with a sign

signed_within : (most : ℕ) (z : ℤ) (w : List ℕ) → signed_of most w ≡ Some z → is_within most z ≡ true
signed_within most z w h = elim
    (cases_Bool (bytes_eq w (signed_decimal (signed_digits_value 10 w)) && is_within most (signed_digits_value 10 w))) [
      | inl so ↦
          let e : Some (signed_digits_value 10 w) ≡ Some z = sym (cond-true _ (Some (signed_digits_value 10 w)) None so) ∙ h in
          let same : signed_digits_value 10 w ≡ z = cc in
          sym (ap (is_within most) same) ∙ (and_parts _ _ so).1
      | inr other ↦ absurd (cc (cond-false _ (Some (signed_digits_value 10 w)) None other, h))
    ]

within_fits_8 : (z : ℤ) → is_within 127 z ≡ true → FitsSigned w8 z
within_fits_8 (pos n) within = record { sfits = omega (arith, leb-true n 127 within) }
within_fits_8 (negsuc n) within = record { sfits = omega (arith, leb-true n 127 within) }

within_fits_16 : (z : ℤ) → is_within 32767 z ≡ true → FitsSigned w16 z
within_fits_16 (pos n) within = record { sfits = omega (arith, leb-true n 32767 within) }
within_fits_16 (negsuc n) within = record { sfits = omega (arith, leb-true n 32767 within) }

within_fits_64 : (z : ℤ) → is_within 9223372036854775807 z ≡ true → FitsSigned w64 z
within_fits_64 (pos n) within = record { sfits = omega (arith, leb-true n 9223372036854775807 within) }
within_fits_64 (negsuc n) within = record { sfits = omega (arith, leb-true n 9223372036854775807 within) }

pub signed_8 : (w : List ℕ) (z : ℤ) → signed_of 127 w ≡ Some z → FitsSigned w8 z
signed_8 w z h = within_fits_8 z (signed_within 127 z w h)

pub signed_16 : (w : List ℕ) (z : ℤ) → signed_of 32767 w ≡ Some z → FitsSigned w16 z
signed_16 w z h = within_fits_16 z (signed_within 32767 z w h)

pub signed_64 : (w : List ℕ) (z : ℤ) → signed_of 9223372036854775807 w ≡ Some z → FitsSigned w64 z
signed_64 w z h = within_fits_64 z (signed_within 9223372036854775807 z w h)

-- ---- bytes in hexadecimal

abbrev IsByte : ℕ → Type 0
IsByte b = b < 2 ^ 8

low_byte : (bytes : List ℕ) → ((i : ℕ) → get_or bytes i 0 < 256) → All IsByte bytes
low_byte [] low = All-nil IsByte
low_byte (b ∷ bytes) low = All-cons IsByte b bytes (omega (arith, low 0)) (low_byte bytes (λ i. low (suc i)))

bytes_are : (w bytes : List ℕ) → bytes_of w ≡ Some bytes → All IsByte bytes
bytes_are w bytes h = go (decode_of w) refl h where
  go : (r : Result (List ℕ) FromHexError) → decode_of w ≡ r → lower_only w r ≡ Some bytes → All IsByte bytes
  go (Err e) is k = absurd (cc)
  go (Ok found) is k = elim (cases_Bool (bytes_eq w (encode_lower found))) [
    | inl so ↦
        let e : Some found ≡ Some bytes = sym (cond-true (bytes_eq w (encode_lower found)) (Some found) None so) ∙ k in
        let same : found ≡ bytes = cc in
        let low = (decode_of-ok w found is).3 in
        subst (All IsByte) same (low_byte found low)
    | inr other ↦ absurd (cc (cond-false (bytes_eq w (encode_lower found)) (Some found) None other, k))
  ]

-- ---- names

filled_is : (size : ℕ) (name : List ℕ) (o : Option (List ℕ)) → ((bytes : List ℕ) → o ≡ Some bytes → All IsByte bytes)
    → filled size o ≡ Some name → IsBytes size name
filled_is size name None each h = absurd (cc)
filled_is size name (Some bytes) each h =
    let zeros : List ℕ = replicate (size - length bytes) 0 in
    elim (cases_Bool (nat_le 1 (length bytes) && nat_le (length bytes) size)) [
      | inl so ↦
          let e : Some (bytes ++ zeros) ≡ Some name = sym (cond-true _ (Some (bytes ++ zeros)) None so) ∙ h in
          let same : bytes ++ zeros ≡ name = cc in
          let few : length bytes ≤ size =
          leb-true (length bytes) size (and_parts (nat_le 1 (length bytes)) (nat_le (length bytes) size) so).1 in
          record {
            len = sym (ap length same) ∙ length-append bytes zeros
                ∙ omega (arith, few, length-replicate {A = ℕ} (size - length bytes) 0);
            each = subst (All IsByte) same
                (All-append IsByte bytes zeros (each bytes refl) (All-replicate IsByte (size - length bytes) 0 (omega arith)));
          }
      | inr other ↦ absurd (cc (cond-false _ (Some (bytes ++ zeros)) None other, h))
    ]

pub name_is : (size : ℕ) (w name : List ℕ) → name_of size w ≡ Some name → IsBytes size name
name_is size w name h = filled_is size name (bytes_of w) (bytes_are w) h

-- ---- frames

before_is : (frame : ℤ) (o : Option (List ℤ)) (frames : List ℤ) → frame_before frame o ≡ Some frames
    → (others : List ℤ) × (o ≡ Some others) × (frame ∷ others ≡ frames)
before_is frame None frames h = absurd (cc)
before_is frame (Some others) frames h = let same : frame ∷ others ≡ frames = cc in (others, refl, same)

doubles_fit : (bytes : List ℕ) (frames : List ℤ) → All IsByte bytes → doubles bytes ≡ Some frames → All (FitsSigned w16) frames
doubles_fit [] frames low h = let same : [] ≡ frames = cc in subst (All (FitsSigned w16)) same (All-nil (FitsSigned w16))
doubles_fit (byte ∷ []) frames low h = absurd (cc)
doubles_fit (high ∷ small ∷ rest) frames low h =
    let n = high * 256 + small in
    let behind = All-tail IsByte high (small ∷ rest) low in
    let a = All-head IsByte high (small ∷ rest) low in
    let b = All-head IsByte small rest behind in
    let here = before_is (cast_signed w16 n) (doubles rest) frames h in
    let fits : FitsSigned w16 (cast_signed w16 n) = sfits_to_z {w = w16} {n = n} (record { fits = omega (arith, a, b) }) in
    subst (All (FitsSigned w16)) here.2
    (All-cons (FitsSigned w16) (cast_signed w16 n) here.0 fits (doubles_fit rest here.0 (All-tail IsByte small rest behind) here.1))

doubles_if_fit : (o : Option (List ℕ)) (frames : List ℤ) → ((bytes : List ℕ) → o ≡ Some bytes → All IsByte bytes)
    → doubles_if o ≡ Some frames → All (FitsSigned w16) frames
doubles_if_fit None frames each h = absurd (cc)
doubles_if_fit (Some bytes) frames each h = doubles_fit bytes frames (each bytes refl) h

few_are : (o : Option (List ℤ)) (frames : List ℤ) → ((found : List ℤ) → o ≡ Some found → All (FitsSigned w16) found)
    → pasted_frames o ≡ Some frames → (1 ≤ length frames) × (length frames ≤ 256) × All (FitsSigned w16) frames
few_are None frames each h = absurd (cc)
few_are (Some found) frames each h = elim (cases_Bool (nat_le 1 (length found) && nat_le (length found) 256)) [
  | inl so ↦
      let e : Some found ≡ Some frames = sym (cond-true _ (Some found) None so) ∙ h in
      let same : found ≡ frames = cc in
      let both = and_parts _ _ so in
      subst (λ fs. (1 ≤ length fs) × (length fs ≤ 256) × All (FitsSigned w16) fs) same
      (leb-true 1 (length found) both.0, leb-true (length found) 256 both.1, each found refl)
  | inr other ↦ absurd (cc (cond-false _ (Some found) None other, h))
]

pub frames_are : (w : List ℕ) (frames : List ℤ) → frames_of w ≡ Some frames
    → (1 ≤ length frames) × (length frames ≤ 256) × All (FitsSigned w16) frames
frames_are w frames h = few_are (doubles_if (bytes_of w)) frames (λ found. doubles_if_fit (bytes_of w) found (bytes_are w)) h
