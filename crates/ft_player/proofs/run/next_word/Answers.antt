use Rattle.std.proofs.Common.{◌≡◌, ◌+◌, ◌*◌, ◌/◌, ℕ, ap, ◌∙◌, arith}
use Rattle.ft_types.specs.Work.{body_of}
use Rattle.ft_image.specs.Read.{body_at}
use Rattle.ft_player.specs.Songs.{place_at}
use Rattle.ft_player.specs.BehindLaws.{played_read}
use Rattle.ft_player.proofs.run.next_word.Goals as goal

pub returns-clause-word : goal.returns-clause-word
returns-clause-word g c = λ songs stands seated is.
    let seat = c.args.seat.now in
    let mid = c.next_body-body.new.pass in
    let new = c.read_word.new.pass in
    let before = c.songs_agree_with_earlier_notes.ensures songs mid new (played_read mid new c.read_word.ensures.on) stands in
    let same : c.args.word.number + 1 ≡ (c.args.word.number + 1) * 4 / 4 = omega arith in
    c.read_word.ensures.word songs stands seated
    (c.next_body-body.ensures.body songs before seated is
    ∙ ap (λ (n : ℕ). body_at (place_at songs seat.version).pool seat.root (body_of n)) same)
