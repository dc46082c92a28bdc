-- The definition on numbers that were worked out from the rule.
use Rattle.std.proofs.Common.{◌≡◌, pos, negsuc, [], ◌∷◌, refl}
use Rattle.ft_format.specs.declared.layout.TheConstants.{EMPTY_CELL}
use Rattle.ft_xmwrite.specs.Generate.{next, draw, drawn, drawn_note, drawn_cell, drawn_frame}

-- 1664525 * 7 + 1013904223 is 1025555898, whose high half is 15648
draw_of_seven : draw 4 7 ≡ (0, 1025555898)
unfolding draw next
draw_of_seven = refl

cell_of_seven :
    drawn_cell 7 ≡ (record { note = 35; instrument = 13; volume = 56; effect = 1; parameter = 20 }, 3675562389)
unfolding drawn_cell drawn_note draw next
cell_of_seven = refl

cell_behind_it : drawn_cell 3675562389 ≡ (EMPTY_CELL, 1550419440)
unfolding drawn_cell drawn_note draw next
cell_behind_it = refl

-- -17120 and 27098
frames_of_seven : drawn 2 drawn_frame 7 ≡ (negsuc 17119 ∷ pos 27098 ∷ [], 3923423697)
unfolding drawn drawn_frame draw next
frames_of_seven = refl
