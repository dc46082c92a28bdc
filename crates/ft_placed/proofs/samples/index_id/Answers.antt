use Rattle.std.proofs.Common.{ap, sym, ◌∙◌, arith, length}
use Rattle.ft_segments.specs.Walk.{SampleIds}
use Rattle.ft_placed.proofs.OfSamples.{sample_walked, sample_is, few_indexes, index_number, index_read, index_absent}
use Rattle.ft_placed.proofs.samples.index_id.Goals as goal

pub returns-then-index-min-clause-answer : goal.returns-then-index-min-clause-answer
returns-then-index-min-clause-answer g c = λ p m ids may shows of is.
    let here = may c.args.sample (sample_is p ids c.args.sample of is) in
    let count = c.index_count.ensures.answer p here in
    let walked = sample_walked p ids c.args.sample of is in
    let many = ap (λ (x : SampleIds). length x.indexes) walked ∙ index_number p.pool c.args.sample in
    let few = few_indexes p m ids shows of in
    let test = c.if-index-min.true in
    sym (index_absent ids c.args.index (omega (arith, count, many, few, c.min.ensures)))

pub returns-clause-answer : goal.returns-clause-answer
returns-clause-answer g c = λ p m ids may shows of is.
    let here = may c.args.sample (sample_is p ids c.args.sample of is) in
    let count = c.index_count.ensures.answer p (c.id.ensures.narrows p c.args.sample here) in
    let test = c.if-index-min.false in
    index_read p.pool ids c.args.sample c.args.index c.id.result (sample_walked p ids c.args.sample of is)
    (omega (arith, count, c.min.ensures)) (c.id.ensures.answer p here)
