use Rattle.std.proofs.Common.{set, ◌∙◌, arith}
use Rattle.ft_image.specs.Values.{count_bytes, envelope_bytes}
use Rattle.ft_roots.proofs.Instruments.{volume_changed, panning_changed, counts_low, envelopes_low}
use Rattle.ft_roots.proofs.Rows.{one_stays}
use Rattle.ft_roots.proofs.Places.{set_first}
use Rattle.ft_roots.proofs.instrument.put_envelope.Goals as goal

pub returns-then-w-eq0 : goal.returns-then-w-eq0
returns-then-w-eq0 c = λ x ids valid has.
    let words = c.args.words.now in
    let a = c.with_byte.result in
    let first = c.with_byte.ensures (count_bytes x) (set (count_bytes x) 1 c.args.count) 0 (counts_low x valid)
    (set_first 1 c.args.count (count_bytes x) (omega arith)) has.counts in
    let second = c.with_four_bytes.ensures (envelope_bytes x) (envelopes_low x valid) (omega arith)
    (one_stays words 0 a 1 (λ e. absurd (omega (arith, e))) ∙ has.envelopes) in
    volume_changed words x ids c.args.w c.args.count _ _ _ _ a c.with_four_bytes.result c.told-words c.if-w-eq0.true first second has

pub returns-else-w-eq0 : goal.returns-else-w-eq0
returns-else-w-eq0 c = λ x ids valid has.
    let words = c.args.words.now in
    let a = c.with_byte-else-w-eq0.result in
    let first = c.with_byte-else-w-eq0.ensures (count_bytes x) (set (count_bytes x) 2 c.args.count) 0 (counts_low x valid)
    (set_first 2 c.args.count (count_bytes x) (omega arith)) has.counts in
    let second = c.with_four_bytes-else-w-eq0.ensures (envelope_bytes x) (envelopes_low x valid) (omega arith)
    (one_stays words 0 a 1 (λ e. absurd (omega (arith, e))) ∙ has.envelopes) in
    panning_changed words x ids c.args.w c.args.count _ _ _ _ a c.with_four_bytes-else-w-eq0.result c.told-words
    c.if-w-eq0.false first second has
