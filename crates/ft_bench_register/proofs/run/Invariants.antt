use Rattle.ft_bench_register.proofs.run.Given as goal

abbrev pub ghosts-measure : goal.ghosts-measure
ghosts-measure a = record { name = a.blank.name; parts = a.blank.parts }
