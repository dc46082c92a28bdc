use Rattle.std.proofs.Common.{rules, ◌<◌, ℕ, sym, ap, subst, ◌∙◌}
use Rattle.ft_types.specs.Valid.{IsValidCell}
use Rattle.ft_shared.specs.Pass.{ReaderState, RegisterId}
use Rattle.ft_player.specs.Songs.{song_at}
use Rattle.ft_player.specs.Behind.{AreSongsBehind}
use Rattle.ft_player.proofs.Held.{held_song}
use Rattle.ft_player.proofs.Ranged.{cell_ranged}
use Rattle.ft_player.proofs.reading.held_cell.Goals as goal

pub returns-clause-value : goal.returns-clause-value
returns-clause-value g c = λ songs version holds stands.
    let now : AreSongsBehind songs c.cell.new.view.pass.now = search (rules, stands) in
    let on = c.cell.ensures.same.3 in
    let h = held_song songs c.args.pass.now c.cell.new.view.pass.now version c.args.root on holds now in
    let song = song_at songs version in
    let channels = h.channels ∙ ap (λ (x : ReaderState). x.register.sizes.channels) on.is
    ∙ ap (λ (x : RegisterId). x.sizes.channels) c.requires.here in
    let below = subst (λ (n : ℕ). c.args.channel < n) (sym channels) c.requires.channel in
    let value = c.cell.ensures.answer _ song h.may h.shows h.rooted below in
    c.ranged_cell.ensures.same
    (subst IsValidCell (sym value) (cell_ranged song c.args.pattern c.args.row c.args.channel h.shows.valid))
    ∙ value
