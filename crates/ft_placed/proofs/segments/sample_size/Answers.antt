use Rattle.std.proofs.Common.{ap, sym, ◌∙◌, length}
use Rattle.ft_segments.specs.Walk.{SampleIds}
use Rattle.ft_changes.specs.Parts.{body_ids}
use Rattle.ft_placed.proofs.OfSamples.{sample_walked, sample_is, index_number, body_number}
use Rattle.ft_placed.proofs.InOrder.{sample_length}
use Rattle.ft_placed.proofs.segments.sample_size.Goals as goal

pub returns-clause-answer : goal.returns-clause-answer
returns-clause-answer g c = λ p m ids may shows of is.
    let sample = c.args.sample in
    let here = may sample (sample_is p ids sample of is) in
    let walked = sample_walked p ids sample of is in
    sample_length ids c.index_count.result c.frame_bodies.result
    (c.index_count.ensures.answer p (c.frame_bodies.ensures.narrows p sample here)
    ∙ sym (ap (λ (x : SampleIds). length x.indexes) walked ∙ index_number p.pool sample))
    (c.frame_bodies.ensures.answer p here
    ∙ sym (ap (λ (x : SampleIds). length (body_ids x)) walked ∙ body_number p.pool sample))
