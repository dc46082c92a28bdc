use Rattle.std.proofs.Common.{◌∙◌, refl, arith}
use Rattle.ft_image.proofs.Instruments.{count_read}
use Rattle.ft_image.proofs.instrument_reading.shape_from.Goals as goal

pub returns : goal.returns
returns c = λ x valid counts fadeout.
    let kind = c.byte.ensures ∙ count_read x c.args.counts 3 valid counts (omega arith) in
    let sweep = c.byte-2.ensures ∙ count_read x c.args.counts 4 valid counts (omega arith) in
    let depth = c.byte-3.ensures ∙ count_read x c.args.counts 5 valid counts (omega arith) in
    let rate = c.byte-4.ensures ∙ count_read x c.args.counts 6 valid counts (omega arith) in
    let low = valid.fadeout in
    (rw (kind, sweep, depth, rate) refl, omega arith)
