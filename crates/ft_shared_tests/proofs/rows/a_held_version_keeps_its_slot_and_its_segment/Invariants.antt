use Rattle.ft_shared_tests.proofs.rows.a_held_version_keeps_its_slot_and_its_segment.Given as goal

abbrev pub ghosts-follow_one : goal.ghosts-follow_one
ghosts-follow_one g a = record { name = a.blank.name; parts = a.blank.parts }
