use Rattle.ft_shared_tests.proofs.threads.follow.Given as goal

abbrev pub ghosts-follow_all_versions : goal.ghosts-follow_all_versions
ghosts-follow_all_versions a = record { name = a.blank.name; parts = a.blank.parts }
