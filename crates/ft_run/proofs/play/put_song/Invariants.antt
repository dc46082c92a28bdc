use Rattle.ft_run.proofs.play.put_song.Given as goal

abbrev pub ghosts-play_stage : goal.ghosts-play_stage
ghosts-play_stage g a = record { name = a.blank.name; parts = a.blank.parts }
