use Rattle.std.proofs.Common.{rules, sym, subst, ◌∙◌}
use Rattle.std.specs.Prelude.{Option, IfSome}
use Rattle.ft_types.specs.declared.instrument.Envelope.{Envelope}
use Rattle.ft_types.specs.Valid.{IsValidEnvelope}
use Rattle.ft_player.specs.Songs.{song_at}
use Rattle.ft_player.specs.Behind.{AreSongsBehind}
use Rattle.ft_player.proofs.Held.{held_song}
use Rattle.ft_player.proofs.Ranged.{envelope_ranged}
use Rattle.ft_player.proofs.reading.held_envelope.Goals as goal

pub returns-clause-value : goal.returns-clause-value
returns-clause-value g c = λ songs version holds stands.
    let now : AreSongsBehind songs c.envelope.new.view.pass.now = search (rules, stands) in
    let h = held_song songs c.args.pass.now c.envelope.new.view.pass.now version c.args.root c.envelope.ensures.same.3 holds now in
    let song = song_at songs version in
    let value = c.envelope.ensures.answer _ song h.may h.shows h.rooted in
    c.ranged_envelope.ensures.same
    (subst (λ (o : Option Envelope). IfSome o IsValidEnvelope) (sym value)
    (envelope_ranged song c.args.instrument c.args.which h.shows.valid))
    ∙ value
