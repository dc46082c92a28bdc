use Rattle.ft_sharing.proofs.Shown.{shared_shows}
use Rattle.ft_sharing.proofs.laws.an_edited_song_is_shown.Goals as goal

pub returns : goal.returns
returns c = shared_shows c.shown_stays.ensures c.walk_finds_the_ids.ensures c.segments_balance.ensures.balance
