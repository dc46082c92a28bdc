use Rattle.std.proofs.Common.{rules, sym, subst, ◌∙◌}
use Rattle.std.specs.Prelude.{Option, IfSome}
use Rattle.ft_types.specs.declared.instrument.Shape.{Shape}
use Rattle.ft_types.specs.Valid.{IsValidShape}
use Rattle.ft_player.specs.Songs.{song_at}
use Rattle.ft_player.specs.Behind.{AreSongsBehind}
use Rattle.ft_player.proofs.Held.{held_song}
use Rattle.ft_player.proofs.Ranged.{shape_ranged}
use Rattle.ft_player.proofs.reading.held_shape.Goals as goal

pub returns-clause-value : goal.returns-clause-value
returns-clause-value g c = λ songs version holds stands.
    let now : AreSongsBehind songs c.shape.new.view.pass.now = search (rules, stands) in
    let h = held_song songs c.args.pass.now c.shape.new.view.pass.now version c.args.root c.shape.ensures.same.3 holds now in
    let song = song_at songs version in
    let value = c.shape.ensures.answer _ song h.may h.shows h.rooted in
    c.ranged_shape.ensures.same
    (subst (λ (o : Option Shape). IfSome o IsValidShape) (sym value) (shape_ranged song c.args.instrument h.shows.valid))
    ∙ value
