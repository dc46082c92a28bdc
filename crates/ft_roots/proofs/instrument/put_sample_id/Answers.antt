use Rattle.std.proofs.Common.{arith}
use Rattle.ft_changes.specs.Parts.{put}
use Rattle.ft_roots.proofs.Instruments.{ids_changed, in_word}
use Rattle.ft_roots.proofs.Places.{put_changed}
use Rattle.ft_roots.proofs.instrument.put_sample_id.Goals as goal

pub returns : goal.returns
returns c = λ x samples are le has.
    let s = c.args.s in
    let new = put s c.args.id samples in
    let changed = put_changed s c.args.id samples le in
    let n = c.from-at.result in
    let here = c.from-at.ensures in
    let was = has.sample_ids n (omega (arith, here, c.requires)) in
    ids_changed c.args.words.now x samples new s n c.with_id.result c.told-words c.requires here
    (c.with_id.ensures samples new n are
    (rw here (in_word s c.args.id samples new changed)) was)
    (λ k ne. c.other_words_stay.ensures.ids s c.args.id k samples new changed ne) has
