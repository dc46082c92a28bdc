use Rattle.std.proofs.Common.{rules}
use Rattle.ft_types.specs.Work.{word_of}
use Rattle.ft_player.specs.Seats.{numbers_of}
use Rattle.ft_player.specs.BehindLaws.{played_read}
use Rattle.ft_player.proofs.Seated.{costs}
use Rattle.ft_player.proofs.asking.other_word.Goals as goal

pub returns-in-Some-clause-on : goal.returns-in-Some-clause-on
returns-in-Some-clause-on g c = c.a_pass_reads_on.ensures.nothing c.args.pass.now

pub returns-clause-word : goal.returns-clause-word
returns-clause-word g c = λ songs stands seated.
    let mid = c.body_for-body.new.pass in
    let new = c.read_word.new.pass in
    let before = c.songs_agree_with_earlier_notes.ensures songs mid new (played_read mid new c.read_word.ensures.on) stands in
    c.read_word.ensures.word songs stands seated (c.body_for-body.ensures.body songs before seated)

pub returns-clause-cost : goal.returns-clause-cost
returns-clause-cost g c =
    costs (word_of c.args.place) (numbers_of c.args.seat.now.words) c.args.steps.now c.body_for-body.new.steps c.read_word.new.steps
    (search rules) c.body_for-body.ensures.near c.body_for-body.ensures.work.1 c.read_word.ensures.work.1
