use Rattle.ft_run.proofs.measure.measured.Given as goal

abbrev pub ghosts-play_stage : goal.ghosts-play_stage
ghosts-play_stage a = record { name = a.blank.name; parts = a.blank.parts }
