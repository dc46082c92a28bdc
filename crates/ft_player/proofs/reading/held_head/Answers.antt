use Rattle.std.proofs.Common.{rules, sym, subst, ◌∙◌}
use Rattle.ft_types.specs.Valid.{IsValidSongHead}
use Rattle.ft_player.specs.Songs.{song_at}
use Rattle.ft_player.specs.Behind.{AreSongsBehind}
use Rattle.ft_player.proofs.Held.{held_song}
use Rattle.ft_player.proofs.Ranged.{head_ranged}
use Rattle.ft_player.proofs.reading.held_head.Goals as goal

pub returns-clause-value : goal.returns-clause-value
returns-clause-value g c = λ songs version holds stands.
    let now : AreSongsBehind songs c.head.new.view.pass.now = search (rules, stands) in
    let h = held_song songs c.args.pass.now c.head.new.view.pass.now version c.args.root c.head.ensures.same.3 holds now in
    let song = song_at songs version in
    let value = c.head.ensures.answer _ song h.may h.shows h.rooted in
    c.ranged_song_head.ensures.same (subst IsValidSongHead (sym value) (head_ranged song h.shows.valid)) ∙ value
