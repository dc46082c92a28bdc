use Rattle.ft_run.proofs.DeskSongs.{desk_songs, stand_behind, each_committed}
use Rattle.ft_run.proofs.laws.the_songs_of_a_desk_stand_behind_its_passes.Goals as goal

pub returns : goal.returns
returns c desk pass is here agrees = (desk_songs desk, stand_behind desk pass is here agrees, each_committed desk is)
