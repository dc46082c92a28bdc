use Rattle.std.proofs.Common.{◌-◌, arith}
use Rattle.ft_edits.specs.Lists.{without_last}
use Rattle.ft_roots.proofs.Instruments.{ids_changed, in_word}
use Rattle.ft_roots.proofs.Places.{last_changed}
use Rattle.ft_roots.proofs.instrument.drop_sample_id.Goals as goal

pub returns : goal.returns
returns c = λ x samples are long has.
    let s = c.args.count - 1 in
    let new = without_last samples in
    let changed = last_changed s samples (omega (arith, long, c.requires)) in
    let n = c.from-at.result in
    let here = c.from-at.ensures in
    let was = has.sample_ids n (omega (arith, here, c.requires)) in
    ids_changed c.args.words.now x samples new s n c.with_id.result c.told-words (omega (arith, c.requires)) here
    (c.with_id.ensures samples new n are
    (rw here (in_word s 0 samples new changed)) was)
    (λ k ne. c.other_words_stay.ensures.ids s 0 k samples new changed ne) has
