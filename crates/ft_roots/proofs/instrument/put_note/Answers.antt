use Rattle.std.proofs.Common.{set, arith}
use Rattle.ft_roots.proofs.Instruments.{note_changed, map_low, in_bytes}
use Rattle.ft_roots.proofs.Places.{set_changed}
use Rattle.ft_roots.proofs.instrument.put_note.Goals as goal

pub returns : goal.returns
returns c = λ x ids valid low has.
    let n = c.args.n in
    let new = set x.map n c.args.k in
    let changed = set_changed n c.args.k x.map (omega (arith, valid.map_len, low)) in
    let at = c.from-at.result in
    let here = c.from-at.ensures in
    let was = has.notes at (omega (arith, here, low)) in
    note_changed c.args.words.now x ids n c.args.k at c.with_byte.result c.told-words low here
    (c.with_byte.ensures x.map new at (map_low x valid) (rw here (in_bytes n c.args.k x.map new changed)) was)
    (λ j ne. c.other_words_stay.ensures.bytes n c.args.k j x.map new changed ne) has
