-- What the laws of the texts of edits say. Each law here that rests on one is given all of them.
use Rattle.ft_lines.specs.Numerals.{NumbersAreReadBack, SignedAreReadBack, NumbersAreWithin, SignedAreWithin, NumbersArePlain, SignedArePlain, EditsArePlain}
use Rattle.ft_lines.specs.ReadBack.{EditsAreReadBack, EditsAreReadInSpaces}
use Rattle.ft_lines.specs.ReadRanges.{LinesAreInRange}

pub record Known : Type 0 where
  pub number_back : NumbersAreReadBack
  pub i64_back : SignedAreReadBack
  pub number_within : NumbersAreWithin
  pub i64_within : SignedAreWithin
  pub plain_decimal : NumbersArePlain
  pub plain_signed : SignedArePlain
  pub plain_words : EditsArePlain
  pub edit_back : EditsAreReadBack
  pub edit_in_spaces : EditsAreReadInSpaces
  pub lines_in_range : LinesAreInRange
