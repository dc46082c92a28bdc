use Rattle.ft_shared_tests.proofs.rows.a_pinned_segment_is_not_filled.Given as goal

abbrev pub ghosts-pin_one : goal.ghosts-pin_one
ghosts-pin_one g a = record { name = a.blank.name; parts = a.blank.parts }
