-- Lines, read.
use Rattle.std.proofs.Common.{◌≡◌, [], ◌∷◌, ◌++◌, replicate, codes, Some, None, Ok, Err, pos, negsuc, refl}
use Rattle.std.specs.Fmt.{digits}
use Rattle.hex.specs.Hex.{encode_with, decode_pairs}
use Rattle.ft_types.specs.declared.edit.Edit.TheVariants as edits
use Rattle.ft_lines.specs.Reading.{spaces, word_length, next_word}
use Rattle.ft_lines.specs.Edits.{edit_reading, readings, name_20, name_22, u32, frames_argument, kind_reading}
use Rattle.ft_lines.specs.Lines.{beginning, timed_reading, time_reading, edits_reading, others_reading, another_reading, line_of}

three_words_of_spaces : line_of 15 (codes "  at  7   tempo 3 ") ≡ Ok (Some (Some 7, edits.Tempo 3 ∷ []))
unfolding beginning timed_reading time_reading edits_reading others_reading another_reading
    edit_reading readings kind_reading u32 next_word spaces word_length digits encode_with decode_pairs
three_words_of_spaces = refl

without_a_time : line_of 15 (codes "cell 0 1 0 0 0 0 0 0") ≡ Ok (Some (None, edits.Cell 0 1 0 0 0 0 0 0 ∷ []))
unfolding beginning timed_reading time_reading edits_reading others_reading another_reading
    edit_reading readings kind_reading next_word spaces word_length digits encode_with decode_pairs
without_a_time = refl

two_of_them : line_of 15 (codes "tempo 3 ; bpm 140") ≡ Ok (Some (None, edits.Tempo 3 ∷ edits.Bpm 140 ∷ []))
unfolding beginning timed_reading time_reading edits_reading others_reading another_reading
    edit_reading readings kind_reading next_word spaces word_length digits encode_with decode_pairs
two_of_them = refl

comment : line_of 15 (codes "#tempo 3") ≡ Ok None
unfolding beginning timed_reading time_reading edits_reading others_reading another_reading
    edit_reading readings kind_reading next_word spaces word_length digits encode_with decode_pairs
comment = refl

blank : line_of 15 (codes "   ") ≡ Ok None
unfolding beginning timed_reading time_reading edits_reading others_reading another_reading
    edit_reading readings kind_reading next_word spaces word_length digits encode_with decode_pairs
blank = refl

hash_behind_a_space : line_of 15 (codes " # x") ≡ Err 1
unfolding beginning timed_reading time_reading edits_reading others_reading another_reading
    edit_reading readings kind_reading next_word spaces word_length digits encode_with decode_pairs
hash_behind_a_space = refl

number_is_missing : line_of 15 (codes "tempo ; bpm 40") ≡ Err 6
unfolding beginning timed_reading time_reading edits_reading others_reading another_reading
    edit_reading readings kind_reading next_word spaces word_length digits encode_with decode_pairs
number_is_missing = refl

over_its_type : line_of 15 (codes "tempo 256") ≡ Err 6
unfolding beginning timed_reading time_reading edits_reading others_reading another_reading
    edit_reading readings kind_reading next_word spaces word_length digits encode_with decode_pairs
over_its_type = refl

leading_zero : line_of 15 (codes "tempo 03") ≡ Err 6
unfolding beginning timed_reading time_reading edits_reading others_reading another_reading
    edit_reading readings kind_reading next_word spaces word_length digits encode_with decode_pairs
leading_zero = refl

words_are_missing : line_of 15 (codes "at 7") ≡ Err 4
unfolding beginning timed_reading time_reading edits_reading others_reading another_reading
    edit_reading readings kind_reading u32 next_word spaces word_length digits encode_with decode_pairs
words_are_missing = refl

words_are_missing_behind_spaces : line_of 15 (codes "order 1  ") ≡ Err 9
unfolding beginning timed_reading time_reading edits_reading others_reading another_reading
    edit_reading readings kind_reading next_word spaces word_length digits encode_with decode_pairs
words_are_missing_behind_spaces = refl

word_too_many : line_of 15 (codes "delpat 1") ≡ Err 7
unfolding beginning timed_reading time_reading edits_reading others_reading another_reading
    edit_reading readings kind_reading next_word spaces word_length digits encode_with decode_pairs
word_too_many = refl

nothing_behind_a_separator : line_of 15 (codes "delpat ;") ≡ Err 8
unfolding beginning timed_reading time_reading edits_reading others_reading another_reading
    edit_reading readings kind_reading next_word spaces word_length digits encode_with decode_pairs
nothing_behind_a_separator = refl

unknown_name : line_of 15 (codes "tempos 3") ≡ Err 0
unfolding beginning timed_reading time_reading edits_reading others_reading another_reading
    edit_reading readings kind_reading next_word spaces word_length digits encode_with decode_pairs
unknown_name = refl

no_minus_zero : line_of 15 (codes "transpose 0 0 0 1 1 -0") ≡ Err 20
unfolding beginning timed_reading time_reading edits_reading others_reading another_reading
    edit_reading readings kind_reading next_word spaces word_length digits encode_with decode_pairs
no_minus_zero = refl

lowest : line_of 15 (codes "transpose 0 0 0 1 1 -128") ≡ Ok (Some (None, edits.Transpose 0 0 0 1 1 (negsuc 127) ∷ []))
unfolding beginning timed_reading time_reading edits_reading others_reading another_reading
    edit_reading readings kind_reading next_word spaces word_length digits encode_with decode_pairs
lowest = refl

too_low : line_of 15 (codes "transpose 0 0 0 1 1 -129") ≡ Err 20
unfolding beginning timed_reading time_reading edits_reading others_reading another_reading
    edit_reading readings kind_reading next_word spaces word_length digits encode_with decode_pairs
too_low = refl

capital_digit : line_of 15 (codes "title 4D") ≡ Err 6
unfolding beginning timed_reading time_reading edits_reading others_reading another_reading
    edit_reading readings kind_reading name_20 next_word spaces word_length digits encode_with decode_pairs
capital_digit = refl

short_name : line_of 15 (codes "insname 1 6269") ≡ Ok (Some (None, edits.Insname 1 (98 ∷ 105 ∷ replicate 20 0) ∷ []))
unfolding beginning timed_reading time_reading edits_reading others_reading another_reading
    edit_reading readings kind_reading name_22 next_word spaces word_length digits encode_with decode_pairs
short_name = refl

half_a_frame : line_of 15 (codes "paste 1 0 4 ff8") ≡ Err 12
unfolding beginning timed_reading time_reading edits_reading others_reading another_reading
    edit_reading readings kind_reading u32 frames_argument next_word spaces word_length digits encode_with decode_pairs
half_a_frame = refl

frames : line_of 15 (codes "paste 1 0 4 ff800080") ≡ Ok (Some (None, edits.Paste 1 0 4 (negsuc 127 ∷ pos 128 ∷ []) ∷ []))
unfolding beginning timed_reading time_reading edits_reading others_reading another_reading
    edit_reading readings kind_reading u32 frames_argument next_word spaces word_length digits encode_with decode_pairs
frames = refl

no_second_edit : line_of 0 (codes "delpat ; delpat") ≡ Err 7
unfolding beginning timed_reading time_reading edits_reading others_reading another_reading
    edit_reading readings kind_reading next_word spaces word_length digits encode_with decode_pairs
no_second_edit = refl

separator_first : line_of 15 (codes "; delpat") ≡ Err 0
unfolding beginning timed_reading time_reading edits_reading others_reading another_reading
    edit_reading readings kind_reading next_word spaces word_length digits encode_with decode_pairs
separator_first = refl

separator_in_place_of_a_number : line_of 15 (codes "tempo ; 3") ≡ Err 6
unfolding beginning timed_reading time_reading edits_reading others_reading another_reading
    edit_reading readings kind_reading next_word spaces word_length digits encode_with decode_pairs
separator_in_place_of_a_number = refl

time_twice : line_of 15 (codes "at 1 at 2 delpat") ≡ Err 5
unfolding beginning timed_reading time_reading edits_reading others_reading another_reading
    edit_reading readings kind_reading u32 next_word spaces word_length digits encode_with decode_pairs
time_twice = refl

time_over_its_type : line_of 15 (codes "at 4294967296 delpat") ≡ Err 3
unfolding beginning timed_reading time_reading edits_reading others_reading another_reading
    edit_reading readings kind_reading u32 next_word spaces word_length digits encode_with decode_pairs
time_over_its_type = refl

latest_time : line_of 15 (codes "at 4294967295 delpat") ≡ Ok (Some (Some 4294967295, edits.Delpat ∷ []))
unfolding beginning timed_reading time_reading edits_reading others_reading another_reading
    edit_reading readings kind_reading u32 next_word spaces word_length digits encode_with decode_pairs
latest_time = refl

tab_is_no_separator : line_of 15 (codes "tempo\t3") ≡ Err 0
unfolding beginning timed_reading time_reading edits_reading others_reading another_reading
    edit_reading readings kind_reading next_word spaces word_length digits encode_with decode_pairs
tab_is_no_separator = refl

plus : line_of 15 (codes "tempo +3") ≡ Err 6
unfolding beginning timed_reading time_reading edits_reading others_reading another_reading
    edit_reading readings kind_reading next_word spaces word_length digits encode_with decode_pairs
plus = refl

name_of_21_bytes : line_of 15 (codes "title 000102030405060708090a0b0c0d0e0f1011121314") ≡ Err 6
unfolding beginning timed_reading time_reading edits_reading others_reading another_reading
    edit_reading readings kind_reading name_20 next_word spaces word_length digits encode_with decode_pairs
name_of_21_bytes = refl

halved : line_of 15 (codes "scale 1 0 0 4 -1 2") ≡ Ok (Some (None, edits.Scale 1 0 0 4 (negsuc 0) 2 ∷ []))
unfolding beginning timed_reading time_reading edits_reading others_reading another_reading
    edit_reading readings kind_reading u32 next_word spaces word_length digits encode_with decode_pairs
halved = refl

sixteenth_separator : line_of 15
    (codes "delpat ; delpat ; delpat ; delpat ; delpat ; delpat ; delpat ; delpat ; "
    ++ codes "delpat ; delpat ; delpat ; delpat ; delpat ; delpat ; delpat ; delpat ; delpat")
    ≡ Err 142
unfolding beginning timed_reading time_reading edits_reading others_reading another_reading
    edit_reading readings kind_reading next_word spaces word_length digits encode_with decode_pairs
sixteenth_separator = refl

sixteen_edits : line_of 15
    (codes "delpat ; delpat ; delpat ; delpat ; delpat ; delpat ; delpat ; delpat ; "
    ++ codes "delpat ; delpat ; delpat ; delpat ; delpat ; delpat ; delpat ; delpat")
    ≡ Ok (Some (None, replicate 16 edits.Delpat))
unfolding beginning timed_reading time_reading edits_reading others_reading another_reading
    edit_reading readings kind_reading next_word spaces word_length digits encode_with decode_pairs
sixteen_edits = refl
