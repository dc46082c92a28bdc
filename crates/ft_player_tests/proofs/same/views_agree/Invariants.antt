use Rattle.ft_player_tests.proofs.same.views_agree.Given as goal

abbrev pub ghosts-player_answers : goal.ghosts-player_answers
ghosts-player_answers a = record { name = a.blank.name; parts = a.blank.parts }
