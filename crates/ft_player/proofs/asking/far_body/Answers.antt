use Rattle.std.proofs.Common.{rules, ◌≡◌, ◌<◌, ◌/◌, ℕ, ap, subst, ◌∙◌, arith}
use Rattle.ft_image.specs.Read.{body_at}
use Rattle.ft_player.specs.Songs.{song_at, place_at}
use Rattle.ft_player.specs.Behind.{AreSongsBehind}
use Rattle.ft_player.proofs.Seated.{pinned_sample}
use Rattle.ft_player.proofs.asking.far_body.Goals as goal

pub returns-clause-body : goal.returns-clause-body
returns-clause-body g c = λ songs stands seated.
    let a = c.args in
    let seat = a.seat.now in
    let new = c.body_of_frame.new.view.pass.now in
    let now : AreSongsBehind songs new = search (rules, stands) in
    let p = pinned_sample c.a_pinned_sample_may_be_shown.ensures songs a.pass.now new a.channel
    c.body_of_frame.new.view.channel seat c.body_of_frame.ensures.same.4 c.body_of_frame.ensures.same.1 c.requires.pinned now seated in
    let inside = subst (λ (n : ℕ). a.place < n) p.many c.requires.inside in
    let same : a.place / 1024 ≡ a.place / 4 / 256 = omega arith in
    c.body_of_frame.ensures.answer (place_at songs seat.version) (song_at songs seat.version) p.sample p.may p.shows p.of inside
    ∙ ap (λ (b : ℕ). body_at (place_at songs seat.version).pool seat.root b) same
