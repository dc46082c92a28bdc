use Rattle.ft_player_tests.proofs.playing.song_plays.Given as goal

abbrev pub ghosts-plays : goal.ghosts-plays
ghosts-plays a = record { name = a.blank.name; parts = a.blank.parts }

abbrev pub ghosts-plays_parted : goal.ghosts-plays_parted
ghosts-plays_parted a = record { name = a.blank.name; parts = a.blank.parts }
