use Rattle.ft_roots.proofs.SongTable.{song_words}
use Rattle.ft_roots.proofs.song.song_words_are_those_of_the_root.Goals as goal

pub returns : goal.returns
returns c = song_words
