use Rattle.ft_shared_tests.proofs.settled.a_take_after_a_note_is_as_new_as_the_note.Given as goal

abbrev pub ghosts-hear_one : goal.ghosts-hear_one
ghosts-hear_one g a = record { name = a.blank.name; parts = a.blank.parts }
