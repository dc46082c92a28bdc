use Rattle.ft_image_tests.proofs.passes.reads_a_song.Given as goal

abbrev pub ghosts-read_song : goal.ghosts-read_song
ghosts-read_song a = record { name = a.blank.name; parts = a.blank.parts }
