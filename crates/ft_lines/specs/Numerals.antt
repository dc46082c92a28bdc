-- What words say of numbers is what they were written of, and words have no space, no LF and no `;`.
use Rattle.std.specs.Prelude.{◌≡◌, ℕ, ◌^◌, ◌<◌, ◌≤◌, true, List, ℤ, decimal, FitsSigned, Some}
use Rattle.std.specs.Int.{w64}
use Rattle.std.specs.Fmt.{signed_decimal}
use Rattle.ft_types.specs.declared.edit.Edit.{Edit}
use Rattle.ft_lines.specs.Values.{number_of, signed_of}
use Rattle.ft_lines.specs.Words.{words_of}
use Rattle.ft_lines.specs.Plain.{plain, all_plain}

-- a number of at most `most` is read from its own digits
abbrev pub NumbersAreReadBack : Type 0
NumbersAreReadBack = (most n : ℕ) → n ≤ most → most < 2 ^ 64 → number_of most (decimal n) ≡ Some n

-- and an i64 from its digits with its sign
abbrev pub SignedAreReadBack : Type 0
SignedAreReadBack = (z : ℤ) → FitsSigned w64 z → signed_of 9223372036854775807 (signed_decimal z) ≡ Some z

-- what is read as a number of at most `most` is one
abbrev pub NumbersAreWithin : Type 0
NumbersAreWithin = (most n : ℕ) (w : List ℕ) → number_of most w ≡ Some n → n ≤ most

-- and what is read as an i64 is one
abbrev pub SignedAreWithin : Type 0
SignedAreWithin = (w : List ℕ) (z : ℤ) → signed_of 9223372036854775807 w ≡ Some z → FitsSigned w64 z

-- digits are plain, with a sign and without
abbrev pub NumbersArePlain : Type 0
NumbersArePlain = (n : ℕ) → plain (decimal n) ≡ true

abbrev pub SignedArePlain : Type 0
SignedArePlain = (z : ℤ) → plain (signed_decimal z) ≡ true

-- and so is each word of an edit
abbrev pub EditsArePlain : Type 0
EditsArePlain = (edit : Edit) → all_plain (words_of edit) ≡ true
