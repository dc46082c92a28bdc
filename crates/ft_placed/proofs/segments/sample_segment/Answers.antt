use Rattle.std.proofs.Common.{ap, ◌-◌, ◌∙◌, length, arith}
use Rattle.ft_segments.specs.Walk.{SampleIds}
use Rattle.ft_placed.proofs.OfSamples.{sample_walked, sample_is, index_number}
use Rattle.ft_placed.proofs.InOrder.{sample_index, sample_body}
use Rattle.ft_placed.proofs.segments.sample_segment.Goals as goal

pub returns-then-k-indexes-clause-answer : goal.returns-then-k-indexes-clause-answer
returns-then-k-indexes-clause-answer g c = λ p m ids may shows of is.
    let here = may c.args.sample (sample_is p ids c.args.sample of is) in
    let count = c.index_count-indexes.ensures.answer p (c.index_id.ensures.narrows p c.args.sample here) in
    let walked = sample_walked p ids c.args.sample of is in
    let many = ap (λ (x : SampleIds). length x.indexes) walked ∙ index_number p.pool c.args.sample in
    let first = c.if-k-eq0.false in
    let test = c.if-k-indexes.true in
    c.index_id.ensures.answer p m ids may shows of is
    ∙ sample_index ids c.args.k (c.args.k - 1) (omega arith) (omega (arith, count, many))

pub returns-clause-answer : goal.returns-clause-answer
returns-clause-answer g c = λ p m ids may shows of is.
    let here = may c.args.sample (sample_is p ids c.args.sample of is) in
    let count = c.index_count-indexes.ensures.answer p (c.frames_body_id.ensures.narrows p c.args.sample here) in
    let walked = sample_walked p ids c.args.sample of is in
    let many = ap (λ (x : SampleIds). length x.indexes) walked ∙ index_number p.pool c.args.sample in
    let first = c.if-k-eq0.false in
    let test = c.if-k-indexes.false in
    c.frames_body_id.ensures.answer p m ids may shows of is
    ∙ sample_body ids c.args.k (c.args.k - 1 - c.index_count-indexes.result) (omega (arith, count, many))
