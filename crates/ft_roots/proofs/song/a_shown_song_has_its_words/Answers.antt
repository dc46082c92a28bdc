use Rattle.ft_roots.proofs.SongTable.{shown_words, small_roots}
use Rattle.ft_roots.proofs.song.a_shown_song_has_its_words.Goals as goal

pub returns-clause-words : goal.returns-clause-words
returns-clause-words c = shown_words

pub returns-clause-small : goal.returns-clause-small
returns-clause-small c = small_roots
