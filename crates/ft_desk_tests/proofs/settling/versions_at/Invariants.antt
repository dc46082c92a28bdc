use Rattle.ft_desk_tests.proofs.settling.versions_at.Given as goal

abbrev pub ghosts-versions_of : goal.ghosts-versions_of
ghosts-versions_of a = record { name = a.blank.name; parts = a.blank.parts }
