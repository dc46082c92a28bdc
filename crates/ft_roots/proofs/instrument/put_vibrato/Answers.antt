use Rattle.std.proofs.Common.{arith}
use Rattle.ft_types.specs.declared.instrument.Instrument.{Instrument}
use Rattle.ft_image.specs.Values.{count_bytes}
use Rattle.ft_roots.proofs.Instruments.{counts_put, in_parts, of_parts, parts_of, counts_low}
use Rattle.ft_roots.proofs.instrument.put_vibrato.Goals as goal

pub returns : goal.returns
returns c = λ x ids valid has.
    let new : Instrument = record x
    { vibrato = record { kind = c.args.kind; sweep = c.args.sweep; depth = c.args.depth; rate = c.args.rate } } in
    let is = c.with_four_bytes.ensures (count_bytes x) (counts_low x valid) (omega arith) has.counts in
    of_parts _ new ids
    (counts_put c.args.words.now (parts_of x ids) c.with_four_bytes.result (count_bytes new) c.told-words is
    (in_parts c.args.words.now x ids has))
