-- Texts of edits, computed.
use Rattle.std.proofs.Common.{◌≡◌, [], ◌∷◌, replicate, codes, pos, negsuc, refl}
use Rattle.ft_types.specs.declared.edit.Edit.TheVariants as edits
use Rattle.std.specs.Fmt.{digits}
use Rattle.hex.specs.Hex.{encode_with}
use Rattle.ft_lines.specs.Texts.{edit_text, batch_text}

numbers_in_order : edit_text (edits.Cell 0 4 1 49 1 64 0 255) ≡ codes "cell 0 4 1 49 1 64 0 255"
unfolding edit_text digits encode_with
numbers_in_order = refl

no_argument : edit_text edits.Delpat ≡ codes "delpat"
unfolding edit_text digits encode_with
no_argument = refl

below_zero : edit_text (edits.Transpose 0 0 0 64 2 (negsuc 11)) ≡ codes "transpose 0 0 0 64 2 -12"
unfolding edit_text digits encode_with
below_zero = refl

signs_and_none : edit_text (edits.Smp 1 0 48 (pos 0) (negsuc 127) 128) ≡ codes "smp 1 0 48 0 -128 128"
unfolding edit_text digits encode_with
signs_and_none = refl

largest_frame_number : edit_text (edits.Cut 1 0 3 4294967295) ≡ codes "cut 1 0 3 4294967295"
unfolding edit_text digits encode_with
largest_frame_number = refl

halved_and_turned : edit_text (edits.Scale 1 0 0 4 (negsuc 0) 2) ≡ codes "scale 1 0 0 4 -1 2"
unfolding edit_text digits encode_with
halved_and_turned = refl

all_bytes_of_a_name : edit_text (edits.Title (77 ∷ 121 ∷ replicate 18 0)) ≡ codes "title 4d79000000000000000000000000000000000000"
unfolding edit_text digits encode_with
all_bytes_of_a_name = refl

frames_of_both_signs : edit_text (edits.Paste 1 0 4 (negsuc 127 ∷ pos 128 ∷ [])) ≡ codes "paste 1 0 4 ff800080"
unfolding edit_text digits encode_with
frames_of_both_signs = refl

two_edits : batch_text (edits.Tempo 3 ∷ edits.Bpm 140 ∷ []) ≡ codes "tempo 3 ; bpm 140"
unfolding batch_text edit_text digits
two_edits = refl
