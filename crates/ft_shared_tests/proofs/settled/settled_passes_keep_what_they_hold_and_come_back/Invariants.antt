use Rattle.ft_shared_tests.proofs.settled.settled_passes_keep_what_they_hold_and_come_back.Given as goal

abbrev pub ghosts-settle_two : goal.ghosts-settle_two
ghosts-settle_two g a = record { name = a.blank.name; parts = a.blank.parts }
