-- Words of values, which say those values.
use Rattle.std.proofs.Common.{◌≡◌, ◌≢◌, ℕ, zero, suc, ◌+◌, ◌-◌, ◌*◌, ◌/◌, ◌%◌, ◌^◌, ◌<◌, ◌≤◌, ◌==◌, true, cond, ◌&&◌, List, [], ◌∷◌, ◌++◌, length, get_or, map, replicate, nat_le, Some, None, ℤ, pos, negsuc, decimal, refl, sym, ap, ◌∙◌, arith, append-nil}
use Rattle.std.specs.Prelude.{FitsSigned, bytes_eq, option_map}
use Rattle.std.specs.Char.{digit_value}
use Rattle.std.specs.Fmt.{signed_decimal}
use Rattle.std.specs.Int.{w8, w16, w64, cast_signed, cast_unsigned}
use Rattle.std.specs.List.{All, list_all}
use Rattle.std.specs.Str.Parse.{AllDigits, digits_value}
use Rattle.std.proofs.lemmas.Bool.{and_from, ne_eqb, not_from_false, le-leb, leb-true, cond-true}
use Rattle.std.proofs.lemmas.Option.{none-some}
use Rattle.std.proofs.lemmas.Str.Parse.{digit_at}
use Rattle.std.proofs.Math.Facts.{Fits-of_z}
use Rattle.std.proofs.lemmas.Slice.Eq.{bytes_eq-Decides}
use Rattle.std.proofs.lemmas.Fmt.{digits_decimal, digits_value-decimal, decimal_nonempty, length-decimal-le}
use Rattle.std.proofs.lemmas.Int.{to_z-of_z}
use Rattle.std.proofs.lemmas.Nat.{from_be_bytes-to_be_bytes_2}
use Rattle.std.proofs.lemmas.List.Elements.{All-nil, All-cons, All-head, All-tail}
use Rattle.hex.specs.Hex.{encode_lower, encode_with, lower_digits, hex_digit_value}
use Rattle.hex.proofs.HexLemmas.{decode_of-encode_lower, length-encode_with, IsDigits-lower_digits}
use Rattle.ft_types.specs.declared.edit_kind.NumberType.{NumberType}
use Rattle.ft_types.specs.declared.edit_kind.NumberType.TheVariants.{U8, U16, U32, I8, I16}
use Rattle.ft_types.specs.declared.edit_kind.LastType.{LastType}
use Rattle.ft_types.specs.declared.edit_kind.LastType.TheVariants.{Nothing, Title, Name, Frames}
use Rattle.ft_types.specs.Signatures.{IsNaturalBelow, IsOfType, AreOfTypes}
use Rattle.ft_types.specs.EditParts.{IsLastPart, AreGiven}
use Rattle.ft_lines.specs.Words.{frame_bytes, closing_words}
use Rattle.ft_lines.specs.Values.{number_of, signed_of, is_within, name_of, filled, bytes_of, lower_only, doubles, frame_before, pasted_frames, doubles_if, frames_of}
use Rattle.ft_lines.specs.Sequence.{give}
use Rattle.ft_lines.specs.Reading.{word}
use Rattle.ft_lines.specs.Edits.{name_20, name_22, frames_argument, natural_word, number_word, numbers_reading, closing_reading}
use Rattle.ft_types.specs.Valid.{IsBytes}
use Rattle.ft_lines.proofs.Decimals.{own, signed_below_zero, signed_from_zero, negated}
use Rattle.ft_lines.proofs.WordsBack.{is_solid, IsWord, Takes, word_taken, TakesWords, nothing_taken, both_taken, made_of}

-- ---- numbers

-- what is in a word's place is the number, where the word is written as that number is
number_at : (most v : ℕ) (w : List ℕ) → w ≡ decimal v → v ≤ most → cond (bytes_eq w (decimal v) && nat_le v most) (Some v) None ≡ Some v
number_at most v w e within = cond-true (bytes_eq w (decimal v) && nat_le v most) (Some v) None
    (and_from _ _ ((bytes_eq-Decides w (decimal v)).1 e) (le-leb v most within))

pub number_back : (most n : ℕ) → n ≤ most → most < 2 ^ 64 → number_of most (decimal n) ≡ Some n
number_back most n within small =
    let e : digits_value 10 (decimal n) ≡ n = digits_value-decimal own n (omega arith) in
    number_at most (digits_value 10 (decimal n)) (decimal n) (ap decimal (sym e)) (omega (arith, e)) ∙ ap Some e

solid_digits : (ds : List ℕ) → AllDigits 10 ds → list_all is_solid ds ≡ true
solid_digits [] digits = refl
solid_digits (c ∷ cs) digits = and_from (is_solid c) (list_all is_solid cs)
    (not_from_false (c == 32) (ne_eqb c 32 (λ e. let v : digit_value 32 < 10 = rw e at digits.0 in omega arith)))
    (solid_digits cs digits.1)

pub decimal_word : (n : ℕ) → n < 2 ^ 64 → IsWord (decimal n)
decimal_word n small = record {
  some = decimal_nonempty n small;
  solid = solid_digits (decimal n) (digits_decimal own n small);
}

natural_taken : (most limit digits : ℕ) (z : ℤ) → limit ≡ most + 1 → IsNaturalBelow limit z → 0 < digits → most < 10 ^ digits
    → most < 2 ^ 64 → Takes (word (natural_word most)) z (32 ∷ signed_decimal z) (digits + 1)
natural_taken most limit digits (pos n) e is some few small = word_taken (natural_word most) (pos n) (decimal n) (digits + 1)
    (decimal_word n (omega (arith, e, is, small))) (ap (option_map pos) (number_back most n (omega (arith, e, is)) small))
    (omega (arith, e, is, length-decimal-le digits n some (omega (arith, e, is, few)) (omega (arith, e, is, small))))
natural_taken most limit digits (negsuc n) e is some few small = absurd is

-- ---- numbers with a sign

no_sign : (n : ℕ) → n < 2 ^ 64 → get_or (decimal n) 0 0 ≢ 45
no_sign n small e =
    let range = digit_at (decimal n) 0 (digits_decimal own n small) (decimal_nonempty n small) in
    omega (arith, e, range.0)

signed_back : (most : ℕ) (z : ℤ) → is_within most z ≡ true → most + 1 < 2 ^ 64 → signed_of most (signed_decimal z) ≡ Some z
signed_back most (pos n) within small =
    let least = leb-true n most within in
    signed_from_zero most (decimal n) (omega arith) (no_sign n (omega arith))
    ∙ ap (option_map pos) (number_back most n least (omega arith))
signed_back most (negsuc n) within small =
    let least = leb-true n most within in
    signed_below_zero most (decimal (suc n)) ∙ ap negated (number_back (most + 1) (suc n) (omega arith) (omega arith))

signed_word : (most : ℕ) (z : ℤ) → is_within most z ≡ true → most < 2 ^ 32 → IsWord (signed_decimal z)
signed_word most (pos n) within small = decimal_word n (omega (arith, leb-true n most within))
signed_word most (negsuc n) within small = record {
  some = omega arith;
  solid = (decimal_word (suc n) (omega (arith, leb-true n most within))).solid;
}

signed_short : (most digits : ℕ) (z : ℤ) → is_within most z ≡ true → 0 < digits → most + 1 < 10 ^ digits → most < 2 ^ 32
    → length (signed_decimal z) ≤ digits + 1
signed_short most digits (pos n) within some few small =
    let least = leb-true n most within in
    omega (arith, length-decimal-le digits n some (omega arith) (omega arith))
signed_short most digits (negsuc n) within some few small =
    let least = leb-true n most within in
    omega (arith, length-decimal-le digits (suc n) some (omega arith) (omega arith))

signed_taken : (most digits : ℕ) (z : ℤ) → is_within most z ≡ true → 0 < digits → most + 1 < 10 ^ digits → most < 2 ^ 32
    → Takes (word (signed_of most)) z (32 ∷ signed_decimal z) (digits + 2)
signed_taken most digits z within some few small = word_taken (signed_of most) z (signed_decimal z) (digits + 2)
    (signed_word most z within small) (signed_back most z within (omega arith))
    (omega (arith, signed_short most digits z within some few small))

within_8 : (z : ℤ) → FitsSigned w8 z → is_within 127 z ≡ true
within_8 (pos n) fits = le-leb n 127 (omega (arith, fits))
within_8 (negsuc n) fits = le-leb n 127 (omega (arith, fits))

within_64 : (z : ℤ) → FitsSigned w64 z → is_within 9223372036854775807 z ≡ true
within_64 (pos n) fits = le-leb n 9223372036854775807 (omega (arith, fits))
within_64 (negsuc n) fits = le-leb n 9223372036854775807 (omega (arith, fits))

pub i64_back : (z : ℤ) → FitsSigned w64 z → signed_of 9223372036854775807 (signed_decimal z) ≡ Some z
i64_back z fits = signed_back 9223372036854775807 z (within_64 z fits) (omega arith)

within_16 : (z : ℤ) → FitsSigned w16 z → is_within 32767 z ≡ true
within_16 (pos n) fits = le-leb n 32767 (omega (arith, fits))
within_16 (negsuc n) fits = le-leb n 32767 (omega (arith, fits))

-- how many bytes a number of a type has at most, with a space
abbrev pub room_of : NumberType → ℕ
room_of U8 = 4
room_of U16 = 6
room_of U32 = 11
room_of I8 = 5
room_of I16 = 7

number_taken : (t : NumberType) (z : ℤ) → IsOfType t z → Takes (word (number_word t)) z (32 ∷ signed_decimal z) (room_of t)
number_taken U8 z is = natural_taken 255 (2 ^ 8) 3 z (omega arith) is (omega arith) (omega arith) (omega arith)
number_taken U16 z is = natural_taken 65535 (2 ^ 16) 5 z (omega arith) is (omega arith) (omega arith) (omega arith)
number_taken U32 z is = natural_taken 4294967295 (2 ^ 32) 10 z (omega arith) is (omega arith) (omega arith) (omega arith)
number_taken I8 z is = signed_taken 127 3 z (within_8 z is) (omega arith) (omega arith) (omega arith)
number_taken I16 z is = signed_taken 32767 5 z (within_16 z is) (omega arith) (omega arith) (omega arith)

-- numbers of these types
abbrev pub room_of_all : List NumberType → ℕ
room_of_all [] = 0
room_of_all (t ∷ ts) = room_of t + room_of_all ts

pub numbers_taken : (ts : List NumberType) (ns : List ℤ) → AreOfTypes ts ns
    → TakesWords (numbers_reading ts) ns (map signed_decimal ns) (room_of_all ts)
numbers_taken [] [] are = nothing_taken []
numbers_taken [] (n ∷ ns) are = absurd are
numbers_taken (t ∷ ts) [] are = absurd are
numbers_taken (t ∷ ts) (n ∷ ns) are = both_taken (word (number_word t)) _ (number_taken t n are.0)
    (made_of (λ ns. n ∷ ns) (numbers_taken ts ns are.1))

-- ---- bytes in hexadecimal

abbrev AreBytes : List ℕ → Type 0
AreBytes bytes = All (λ b. b < 2 ^ 8) bytes

is_bytes : (bytes : List ℕ) → AreBytes bytes → (i : ℕ) → get_or bytes i 0 < 256
is_bytes [] all i = omega arith
is_bytes (b ∷ bytes) all zero = omega (arith, All-head (λ b. b < 2 ^ 8) b bytes all)
is_bytes (b ∷ bytes) all (suc i) = is_bytes bytes (All-tail (λ b. b < 2 ^ 8) b bytes all) i

solid_digit : (d : ℕ) → d < 16 → is_solid (get_or lower_digits d 0) ≡ true
solid_digit d low = not_from_false (get_or lower_digits d 0 == 32) (ne_eqb (get_or lower_digits d 0) 32 (λ e.
    none-some d (ap hex_digit_value (sym e) ∙ IsDigits-lower_digits d low)))

solid_hex : (bytes : List ℕ) → AreBytes bytes → list_all is_solid (encode_lower bytes) ≡ true
unfolding encode_with
solid_hex [] all = refl
solid_hex (b ∷ bytes) all =
    let low = All-head (λ b. b < 2 ^ 8) b bytes all in
    and_from _ _ (solid_digit (b / 16) (omega (arith, low)))
    (and_from _ _ (solid_digit (b % 16) (omega arith)) (solid_hex bytes (All-tail (λ b. b < 2 ^ 8) b bytes all)))

hex_word : (bytes : List ℕ) → 0 < length bytes → AreBytes bytes → IsWord (encode_lower bytes)
hex_word bytes some all = record {
  some = omega (arith, length-encode_with lower_digits bytes);
  solid = solid_hex bytes all;
}

bytes_back : (bytes : List ℕ) → AreBytes bytes → bytes_of (encode_lower bytes) ≡ Some bytes
bytes_back bytes all =
    let w = encode_lower bytes in
    ap (lower_only w) (decode_of-encode_lower bytes (is_bytes bytes all))
    ∙ cond-true (bytes_eq w w) (Some bytes) None ((bytes_eq-Decides w w).1 refl)

-- ---- names

name_back : (size : ℕ) (name : List ℕ) → 1 ≤ size → IsBytes size name → name_of size (encode_lower name) ≡ Some name
name_back size name some is =
    let full = is.len in
    let none : size - length name ≡ 0 = omega arith in
    ap (filled size) (bytes_back name is.each)
    ∙ (cond-true (nat_le 1 (length name) && nat_le (length name) size) (Some (name ++ replicate (size - length name) 0)) None
    (and_from _ _ (le-leb 1 (length name) (omega arith)) (le-leb (length name) size (omega arith)))
    ∙ ap Some (ap (λ k. name ++ replicate k 0) none ∙ append-nil name))

name_taken : (size : ℕ) (name : List ℕ) → 1 ≤ size → size ≤ 22 → IsBytes size name
    → Takes (word (name_of size)) name (32 ∷ encode_lower name) 45
name_taken size name some few is = word_taken (name_of size) name (encode_lower name) 45
    (hex_word name (omega (arith, is.len)) is.each) (name_back size name some is)
    (omega (arith, length-encode_with lower_digits name, is.len))

pub name_20_taken : (name : List ℕ) → IsBytes 20 name → Takes name_20 name (32 ∷ encode_lower name) 45
unfolding name_20
name_20_taken name is = name_taken 20 name (omega arith) (omega arith) is

pub name_22_taken : (name : List ℕ) → IsBytes 22 name → Takes name_22 name (32 ∷ encode_lower name) 45
unfolding name_22
name_22_taken name is = name_taken 22 name (omega arith) (omega arith) is

-- ---- frames

bytes_of_frames : (frames : List ℤ) → AreBytes (frame_bytes frames)
bytes_of_frames [] = All-nil (λ b. b < 2 ^ 8)
bytes_of_frames (frame ∷ frames) =
    let n = cast_unsigned w16 frame in
    All-cons (λ b. b < 2 ^ 8) (n / 256 % 256) (n % 256 ∷ frame_bytes frames) (omega arith)
    (All-cons (λ b. b < 2 ^ 8) (n % 256) (frame_bytes frames) (omega arith) (bytes_of_frames frames))

length_of_frames : (frames : List ℤ) → length (frame_bytes frames) ≡ 2 * length frames
length_of_frames [] = refl
length_of_frames (frame ∷ frames) = omega (arith, length_of_frames frames)

doubles_back : (frames : List ℤ) → All (FitsSigned w16) frames → doubles (frame_bytes frames) ≡ Some frames
doubles_back [] all = refl
doubles_back (frame ∷ frames) all =
    let fits : FitsSigned w16 frame = All-head (FitsSigned w16) frame frames all in
    let n = cast_unsigned w16 frame in
    let small : n < 2 ^ 16 = omega (arith, Fits-of_z {w = w16} {z = frame} fits) in
    let same : cast_signed w16 (n / 256 % 256 * 256 + n % 256) ≡ frame =
    ap (cast_signed w16) (from_be_bytes-to_be_bytes_2 n small) ∙ to_z-of_z w16 frame fits in
    ap (frame_before (cast_signed w16 (n / 256 % 256 * 256 + n % 256))) (doubles_back frames (All-tail (FitsSigned w16) frame frames all))
    ∙ ap (λ x. Some (x ∷ frames)) same

frames_back : (frames : List ℤ) → 1 ≤ length frames → length frames ≤ 256 → All (FitsSigned w16) frames
    → frames_of (encode_lower (frame_bytes frames)) ≡ Some frames
frames_back frames some few_enough all =
    ap (λ o. pasted_frames (doubles_if o)) (bytes_back (frame_bytes frames) (bytes_of_frames frames))
    ∙ (ap pasted_frames (doubles_back frames all)
    ∙ cond-true (nat_le 1 (length frames) && nat_le (length frames) 256) (Some frames) None
    (and_from _ _ (le-leb 1 (length frames) some) (le-leb (length frames) 256 few_enough)))

pub frames_taken : (frames : List ℤ) → 1 ≤ length frames → length frames ≤ 256 → All (FitsSigned w16) frames
    → Takes frames_argument frames (32 ∷ encode_lower (frame_bytes frames)) 1025
unfolding frames_argument
frames_taken frames some few_enough all =
    let l = length_of_frames frames in
    word_taken frames_of frames (encode_lower (frame_bytes frames)) 1025
    (hex_word (frame_bytes frames) (omega arith) (bytes_of_frames frames)) (frames_back frames some few_enough all)
    (omega (arith, length-encode_with lower_digits (frame_bytes frames)))

-- ---- what comes behind the numbers

abbrev pub closing_room : LastType → ℕ
closing_room Nothing = 0
closing_room Title = 45
closing_room Name = 45
closing_room Frames = 1025

pub closing_taken : (t : LastType) (name : List ℕ) (frames : List ℤ) → IsLastPart t name frames → AreGiven t frames
    → TakesWords (closing_reading t) (name, frames) (closing_words t name frames) (closing_room t)
closing_taken Nothing name frames is given = rw (is.0, is.1) (nothing_taken ([], []))
closing_taken Title name frames is given =
    rw is.1 (both_taken name_20 (λ name. give (name, [])) (name_20_taken name is.0) (nothing_taken (name, [])))
closing_taken Name name frames is given =
    rw is.1 (both_taken name_22 (λ name. give (name, [])) (name_22_taken name is.0) (nothing_taken (name, [])))
closing_taken Frames name frames is given =
    rw is.0 (both_taken frames_argument (λ frames. give ([], frames)) (frames_taken frames given.0 given.1 is.1)
    (nothing_taken ([], frames)))
