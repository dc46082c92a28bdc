use Rattle.std.proofs.Common.{refl}
use Rattle.ft_player.proofs.ReadOn.{stood, kept_on}
use Rattle.ft_player.proofs.view.PlayerViewSongView.head.Goals as goal

pub invariant_of-self : goal.invariant_of-self
invariant_of-self g c =
    let old = c.args.self.now in
    kept_on c.songs_agree_with_earlier_notes.ensures old.shared.now old.seats.now.items old.version old.root old.pass.now
    c.held_head.new.pass c.held_head.ensures.on
    (record { here = old.here; held = old.held; many = old.many; pins = old.pins; seated = old.seated })

pub returns-clause-shows : goal.returns-clause-shows
returns-clause-shows g c = λ w stands.
    (stood c.songs_agree_with_earlier_notes.ensures c.args.self.now.pass.now c.held_head.new.pass c.held_head.ensures.on w stands, refl)
