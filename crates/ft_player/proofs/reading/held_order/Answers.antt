use Rattle.std.proofs.Common.{rules}
use Rattle.ft_player.specs.Songs.{song_at}
use Rattle.ft_player.specs.Behind.{AreSongsBehind}
use Rattle.ft_player.proofs.Held.{held_song}
use Rattle.ft_player.proofs.reading.held_order.Goals as goal

pub returns-clause-value : goal.returns-clause-value
returns-clause-value g c = λ songs version holds stands below.
    let now : AreSongsBehind songs c.order.new.view.pass.now = search (rules, stands) in
    let h = held_song songs c.args.pass.now c.order.new.view.pass.now version c.args.root c.order.ensures.same.3 holds now in
    c.order.ensures.answer _ (song_at songs version) h.may h.shows h.rooted below
