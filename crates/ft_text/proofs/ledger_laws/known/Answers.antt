use Rattle.ft_text.proofs.ledger_laws.known.Goals as goal

pub returns : goal.returns
returns c = record {
  number_back = c.printed_numbers_are_read.ensures.back;
  i64_back = c.printed_numbers_are_read.ensures.signed_back;
  number_within = c.printed_numbers_are_read.ensures.within;
  i64_within = c.printed_numbers_are_read.ensures.signed_within;
  plain_decimal = c.words_are_plain.ensures.numbers;
  plain_signed = c.words_are_plain.ensures.signed;
  plain_words = c.words_are_plain.ensures.edits;
  edit_back = c.printed_edits_are_read.ensures;
  edit_in_spaces = c.edits_are_read_in_spaces.ensures;
  lines_in_range = c.read_edits_are_in_range.ensures.ranges;
}
